-- Filled front: 01 "Outcomes", last paragraph.
use Rattle.std.specs.Prelude.{ℕ, ◌-◌, ◌≤◌, ◌<◌, cond, ◌≡◌, List, [], ◌∷◌, leb, length, take}
use Rattle.lists.specs.Sums.{sum}

-- the longest front part whose sum is at most the total
unfoldable pub front : ℕ → List ℕ → List ℕ
front total [] = []
front total (x ∷ xs) = cond (leb x total) (x ∷ front (total - x) xs) []

-- It is a front part, its sum is at most the total, and every longer front part has more; sums are those of unbounded numbers.
pub record LongestFront (total : ℕ) (xs part : List ℕ) : Type 0 where
  pub is_front : part ≡ take (length part) xs
  pub most : length part ≤ length xs
  pub fits : sum (λ x. x) part ≤ total
  pub longest : (n : ℕ) → length part < n → n ≤ length xs → total < sum (λ x. x) (take n xs)
