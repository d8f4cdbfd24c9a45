-- Quotes (02 K2) by hand: a quote, overwritten, and the opening.
use Rattle.std.specs.Prelude.{ℕ, true, false, ◌≡◌, refl, [], ◌∷◌}
use Rattle.terms.specs.declared.quote_terms.{QuoteEntry.QuoteEntry}
use Rattle.book.specs.Columns.{order_at}
use Rattle.session.specs.declared.{Session.Session}
use Rattle.quotation.specs.Quote.{quoted}
use Rattle.worked.specs.Computing.{computing}
use Rattle.worked.specs.Samples.{started_at, buy, sell, enter, auction_answered, numbers}

-- 10 bid and 10 asked by member 8
abbrev quote : ℕ → ℕ → QuoteEntry
quote low high = record { member = 8; bid = record { quantity = 10; limit = low }; ask = record { quantity = 10; limit = high } }

-- two orders of member 7, and a quote between them
abbrev between : Session
between = (quoted (enter (started_at 100_000) (buy 10 99_000 ∷ sell 10 100_200 ∷ [])) (quote 99_900 100_100)).session

-- .. overwritten by one that meets the sell
abbrev over : Session
over = (quoted between (quote 100_300 100_400)).session

-- the next two numbers
over-numbers : ((quoted between (quote 100_300 100_400)).bid ≡ 5) × ((quoted between (quote 100_300 100_400)).ask ≡ 6)
unfolding computing
over-numbers = (refl, refl)

-- the old sides' places are the lowest free ones, and the orders stay at theirs
over-places : ((order_at over.book 1).number ≡ 2) × ((order_at over.book 2).number ≡ 5) × ((order_at over.book 3).number ≡ 6)
unfolding computing
over-places = (refl, refl, refl)

over-marks : ((order_at over.book 1).quoted ≡ false) × ((order_at over.book 3).quoted ≡ true)
unfolding computing
over-marks = (refl, refl)

-- 10 at 100,200 or 100,300: the nearer to the reference price
over-opens : auction_answered 1 over ≡ numbers 1 100_200 10 1
unfolding computing
over-opens = refl

-- a bid at its ask is 13; an ask of reference × factor is 6
at-the-ask : (quoted (started_at 100_000) (quote 100_000 100_000)).answer ≡ 13
unfolding computing
at-the-ask = refl

ask-too-far : (quoted (started_at 100_000) (quote 100_000 900_000)).answer ≡ 6
unfolding computing
ask-too-far = refl
