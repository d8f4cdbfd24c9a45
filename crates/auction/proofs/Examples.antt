-- Worked examples: the outcomes, the trades of 01 "Session file", and what leaves the book.
use Rattle.std.specs.Prelude.{◌≡◌, refl, [], ◌∷◌}
use Rattle.std.proofs.Math.Option.{some, none}
use Rattle.terms.specs.Samples.{order, buy, sell, buy_any}
use Rattle.terms.specs.Orders.{at_price}
use Rattle.terms.specs.declared.orders.{Side.TheVariants.Buy, Validity.TheVariants.AtOpening, Validity.TheVariants.AtClose, Validity.TheVariants.Day, Validity.TheVariants.LaterDay, Auction.TheVariants.Opening, Auction.TheVariants.Closing}
use Rattle.auction.specs.declared.{Outcome.TheVariants.Traded, Outcome.TheVariants.NoTrade, Outcome.TheVariants.NonOpening, Outcome.TheVariants.Delayed}
use Rattle.auction.specs.Outcome.{unheld, trades}
use Rattle.auction.specs.After.{rest_of}
use Rattle.auction.specs.Examples.{computing, held_by_both, held_by_unlimited, outcome_on, trade, worked_book}

-- an unlimited order that stays unfilled prevents an auction, unless nothing may hold it back
prevents : outcome_on held_by_both (buy_any 1 50 ∷ sell 2 30 100_200 ∷ []) ≡ NonOpening
unfolding computing
prevents = refl

closes : outcome_on unheld (buy_any 1 50 ∷ sell 2 30 100_200 ∷ []) ≡ Traded 100_200 30
unfolding computing
closes = refl

-- a price that reaches the threshold delays an auction that may be delayed; one step nearer it doesn't
delayed-once : outcome_on held_by_both (buy 1 10 101_500 ∷ sell 2 10 101_500 ∷ []) ≡ Delayed 101_500 10
unfolding computing
delayed-once = refl

then-opened : outcome_on held_by_unlimited (buy 1 10 101_500 ∷ sell 2 10 101_500 ∷ []) ≡ Traded 101_500 10
unfolding computing
then-opened = refl

not-delayed : outcome_on held_by_both (buy 1 10 101_400 ∷ sell 2 10 101_400 ∷ []) ≡ Traded 101_400 10
unfolding computing
not-delayed = refl

-- Non Opening answers before Delayed Opening
prevents-first : outcome_on held_by_both (buy_any 1 50 ∷ sell 2 30 101_500 ∷ []) ≡ NonOpening
unfolding computing
prevents-first = refl

nothing : outcome_on held_by_both [] ≡ NoTrade
unfolding computing
nothing = refl

worked-outcome : outcome_on held_by_both worked_book ≡ Traded 100_200 80
unfolding computing
worked-outcome = refl

worked-trades : trades (Traded 100_200 80) worked_book ≡ trade 2 4 50 ∷ trade 1 4 30 ∷ []
unfolding computing
worked-trades = refl

-- what is left of order 1 rests; order 2 is filled and gone
rests : rest_of Opening (trade 2 4 50 ∷ trade 1 4 30 ∷ []) (buy 1 50 100_200) ≡ some (buy 1 20 100_200)
unfolding computing
rests = refl

gone : rest_of Opening (trade 2 4 50 ∷ trade 1 4 30 ∷ []) (buy 2 50 100_400) ≡ none
unfolding computing
gone = refl

-- after opening validity 1 goes; after closing only validity 4 stays
opening-ends : rest_of Opening [] (order 1 Buy AtOpening 5 (at_price 100)) ≡ none
unfolding computing
opening-ends = refl

opening-keeps : rest_of Opening [] (order 1 Buy AtClose 5 (at_price 100)) ≡ some (order 1 Buy AtClose 5 (at_price 100))
unfolding computing
opening-keeps = refl

closing-ends : rest_of Closing [] (order 1 Buy Day 5 (at_price 100)) ≡ none
unfolding computing
closing-ends = refl

closing-keeps : rest_of Closing [] (order 1 Buy LaterDay 5 (at_price 100)) ≡ some (order 1 Buy LaterDay 5 (at_price 100))
unfolding computing
closing-keeps = refl
