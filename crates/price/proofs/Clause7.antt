-- Where clause 7 of 000 as printed and 01 differ: the books of docs/CLAUSE-7.md, with the price that the chain finds.
use Rattle.std.proofs.Math.Option.{some}
use Rattle.std.specs.Prelude.{◌≡◌, refl, [], ◌∷◌}
use Rattle.lists.specs.Sums.{apart}
use Rattle.terms.specs.Samples.{buy, sell, buy_any, sell_any}
use Rattle.price.specs.Interest.{interest}
use Rattle.price.specs.Chain.{auction_price}

-- 1. e: as printed 99,800
unlimited-with-limited : auction_price 100_000 (buy_any 1 30 ∷ sell 2 30 99_800 ∷ []) ≡ some 100_000
unfolding auction_price interest apart
unlimited-with-limited = refl

-- 2. g: as printed 100,000
mean : auction_price 99_700 (buy 1 100 100_500 ∷ sell 2 100 99_500 ∷ []) ≡ some 99_700
unfolding auction_price interest apart
mean = refl

-- 3. g, rounded up: as printed 100,100
mean-rounded : auction_price 90_000 (buy 1 10 100_100 ∷ sell 2 10 100_000 ∷ []) ≡ some 100_000
unfolding auction_price interest apart
mean-rounded = refl

-- 4. g, moved to the best order that remains: as printed 100,200
mean-moved : auction_price 100_000 (buy 1 100 100_400 ∷ buy 2 20 100_200 ∷ sell 3 100 99_800 ∷ sell 4 20 100_400 ∷ []) ≡ some 100_000
unfolding auction_price interest apart
mean-moved = refl

-- 5. d, moved to the best order that remains: as printed 99,500
reference-moved : auction_price 100_000 (buy_any 1 50 ∷ sell_any 2 50 ∷ buy 3 20 99_000 ∷ sell 4 20 99_500 ∷ []) ≡ some 100_000
unfolding auction_price interest apart
reference-moved = refl

-- 6. d, where the differences decide: as printed 99,500
difference-decides : auction_price 100_000 (buy_any 1 50 ∷ sell_any 2 50 ∷ buy 3 10 99_000 ∷ sell 4 20 99_500 ∷ []) ≡ some 99_000
unfolding auction_price interest apart
difference-decides = refl

-- 7. f, "order quantity" as entered: as printed 100,400
order-quantity : auction_price 100_000 (buy 1 100 100_400 ∷ sell 2 80 99_700 ∷ sell 3 50 99_900 ∷ []) ≡ some 99_900
unfolding auction_price interest apart
order-quantity = refl

-- 9. e, with a better order remaining: as printed 99,800
unlimited-with-better : auction_price 99_900 (buy_any 1 30 ∷ buy 2 10 99_900 ∷ sell 3 30 99_800 ∷ []) ≡ some 99_900
unfolding auction_price interest apart
unlimited-with-better = refl

-- 10. f or g, by the reading of "order quantity": as printed 99,500 or 99,900
either-quantity : auction_price 100_000 (buy 1 50 100_500 ∷ buy 2 50 100_300 ∷ sell 3 100 99_500 ∷ []) ≡ some 100_000
unfolding auction_price interest apart
either-quantity = refl
