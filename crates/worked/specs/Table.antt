-- The P table: 01 "Sums to check by hand", P1 to P10, over the definitions of the calls.
use Rattle.std.specs.Prelude.{◌≡◌, refl, [], ◌∷◌}
use Rattle.worked.specs.Computing.{computing}
use Rattle.worked.specs.Samples.{started_at, buy, sell, buy_any, sell_any, entry_answer, enter, auction_answered, after, opening_of, numbers}

pub record PTable : Type 0 where
  -- limit 899,900 passes 6; 900,000 doesn't
  pub P1 : (entry_answer 100_000 (buy 1 899_900) ≡ 0) × (entry_answer 100_000 (buy 1 900_000) ≡ 6)
  -- limit 11,200 passes (100,800); 11,100 doesn't (99,900)
  pub P2 : (entry_answer 100_000 (buy 1 11_200) ≡ 0) × (entry_answer 100_000 (buy 1 11_100) ≡ 6)
  -- 5,000,000 at 200,000 is refused by 7; 4,999,999 passes
  pub P3 : (entry_answer 100_000 (buy 5_000_000 200_000) ≡ 7) × (entry_answer 100_000 (buy 4_999_999 200_000) ≡ 0)
  -- unlimited 10,000,000 is refused by 8; 9,999,999 passes
  pub P4 : (entry_answer 100_000 (buy_any 10_000_000) ≡ 8) × (entry_answer 100_000 (buy_any 9_999_999) ≡ 0)
  -- buy 100 at 100,500, sell 100 at 99,500: price 100,000, quantity 100
  pub P5 : opening_of 100_000 (buy 100 100_500 ∷ sell 100 99_500 ∷ []) ≡ numbers 1 100_000 100 1
  -- the same with sell 60: 100,500, 60; with buy 60 and sell 100: 99,500, 60
  pub P6 : (opening_of 100_000 (buy 100 100_500 ∷ sell 60 99_500 ∷ []) ≡ numbers 1 100_500 60 1)
      × (opening_of 100_000 (buy 60 100_500 ∷ sell 100 99_500 ∷ []) ≡ numbers 1 99_500 60 1)
  -- unlimited buy 50 and sell 50: 100,000, 50
  pub P7 : opening_of 100_000 (buy_any 50 ∷ sell_any 50 ∷ []) ≡ numbers 1 100_000 50 1
  -- unlimited buy 50, sell 30 at 100,200: Non Opening; buy 30 instead: 100,200, 30
  pub P8 : (opening_of 100_000 (buy_any 50 ∷ sell 30 100_200 ∷ []) ≡ numbers 3 0 0 0) × (opening_of 100_000 (buy_any 30 ∷ sell 30 100_200 ∷ []) ≡ numbers 1 100_200 30 1)
  -- buy 100 at 100,400, buy 20 at 100,200, sell 100 at 99,800, sell 20 at 100,400: 100,000, 100; with reference 101,000: 100,400, 100
  pub P9 : (opening_of 100_000 (buy 100 100_400 ∷ buy 20 100_200 ∷ sell 100 99_800 ∷ sell 20 100_400 ∷ []) ≡ numbers 1 100_000 100 1)
      × (opening_of 101_000 (buy 100 100_400 ∷ buy 20 100_200 ∷ sell 100 99_800 ∷ sell 20 100_400 ∷ []) ≡ numbers 1 100_400 100 1)
  -- buy 10 and sell 10 at 101,500: Delayed; asked again, it opens; at 101,400 it opens at once
  pub P10 : (opening_of 100_000 (buy 10 101_500 ∷ sell 10 101_500 ∷ []) ≡ numbers 4 101_500 10 0)
      × (auction_answered 1 (after 1 (enter (started_at 100_000) (buy 10 101_500 ∷ sell 10 101_500 ∷ []))) ≡ numbers 1 101_500 10 1)
      × (opening_of 100_000 (buy 10 101_400 ∷ sell 10 101_400 ∷ []) ≡ numbers 1 101_400 10 1)

-- B1.
pub p-table : PTable
unfolding computing
p-table = record {
  P1 = (refl, refl);
  P2 = (refl, refl);
  P3 = (refl, refl);
  P4 = (refl, refl);
  P5 = refl;
  P6 = (refl, refl);
  P7 = refl;
  P8 = (refl, refl);
  P9 = (refl, refl);
  P10 = (refl, refl, refl);
}
