-- Worked examples: the chain on the books of 01 "Sums to check by hand", and one for each rule.
use Rattle.std.proofs.Math.Option.{some, none}
use Rattle.std.specs.Prelude.{◌≡◌, refl, [], ◌∷◌}
use Rattle.lists.specs.Sums.{apart}
use Rattle.terms.specs.Samples.{buy, sell, buy_any, sell_any}
use Rattle.price.specs.Interest.{interest}
use Rattle.price.specs.Chain.{auction_price}

-- step 1: nothing executable, no price
apart-books : auction_price 100_000 (buy 1 10 99_000 ∷ sell 2 10 101_000 ∷ []) ≡ none
unfolding auction_price interest apart
apart-books = refl

-- step 1: at 100,300 both buys can trade, at 100,400 one
most-executable : auction_price 100_400 (buy 1 10 100_400 ∷ buy 2 10 100_300 ∷ sell 3 20 100_100 ∷ []) ≡ some 100_300
unfolding auction_price interest apart
most-executable = refl

-- step 2: at 100,100 the difference is 0, at 100,400 it is 5
least-difference : auction_price 100_400 (buy 1 10 100_400 ∷ sell 2 10 100_100 ∷ sell 3 5 100_400 ∷ []) ≡ some 100_100
unfolding auction_price interest apart
least-difference = refl

-- step 3: the highest where demand exceeds (P6), the lowest where supply does
highest-for-demand : auction_price 100_000 (buy 1 100 100_500 ∷ sell 2 60 99_500 ∷ []) ≡ some 100_500
unfolding auction_price interest apart
highest-for-demand = refl

lowest-for-supply : auction_price 100_000 (buy 1 60 100_500 ∷ sell 2 100 99_500 ∷ []) ≡ some 99_500
unfolding auction_price interest apart
lowest-for-supply = refl

-- step 4: the nearest to the reference price (P5, P7, P9)
nearest : auction_price 100_000 (buy 1 100 100_500 ∷ sell 2 100 99_500 ∷ []) ≡ some 100_000
unfolding auction_price interest apart
nearest = refl

nearest-unlimited : auction_price 100_000 (buy_any 1 50 ∷ sell_any 2 50 ∷ []) ≡ some 100_000
unfolding auction_price interest apart
nearest-unlimited = refl

nearest-below : auction_price 101_000 (buy 1 100 100_400 ∷ buy 2 20 100_200 ∷ sell 3 100 99_800 ∷ sell 4 20 100_400 ∷ []) ≡ some 100_400
unfolding auction_price interest apart
nearest-below = refl
