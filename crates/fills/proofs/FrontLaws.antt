-- Filled front: 01 "Outcomes", last paragraph.
use Rattle.std.specs.Prelude.{ℕ, zero, suc, ◌+◌, ◌-◌, ◌≤◌, ◌<◌, Bool, true, false, cond, ◌≡◌, refl, List, [], ◌∷◌, leb, length, get_or, take, drop}
use Rattle.std.proofs.Common.{ap, add-one, arith, le-leb, leb-true, leb-false, drop_of_length-le, drop-cons}
use Rattle.std.proofs.lemmas.Bool.{lt-leb}
use Rattle.lists.specs.Sums.{sum}
use Rattle.fills.specs.Front.{LongestFront, front}

pub front-longest : (total : ℕ) (xs : List ℕ) → LongestFront total xs (front total xs)
unfolding front
front-longest total [] = record { is_front = refl; most = omega arith; fits = omega arith; longest = λ n h k. absurd (omega arith) }
front-longest total (x ∷ xs) = go (leb x total) refl (front-longest (total - x) xs)
  where
    go : (b : Bool) → leb x total ≡ b → LongestFront (total - x) xs (front (total - x) xs) → LongestFront total (x ∷ xs) (cond b (x ∷ front (total - x) xs) [])
    go true e below =
        let h = leb-true x total e in
        record {
          is_front = ap (λ (l : List ℕ). x ∷ l) below.is_front;
          most = omega (arith, below.most);
          fits = omega (arith, below.fits);
          longest = later h below.longest;
        }
      where
        later : x ≤ total → ((n : ℕ) → length (front (total - x) xs) < n → n ≤ length xs → total - x < sum (λ y. y) (take n xs))
            → (n : ℕ) → suc (length (front (total - x) xs)) < n → n ≤ suc (length xs) → total < sum (λ y. y) (take n (x ∷ xs))
        later h below zero k l = absurd (omega arith)
        later h below (suc n) k l = omega (arith, below n (omega arith) (omega arith))
    go false e below =
        let h = leb-false x total e in
        record { is_front = refl; most = omega arith; fits = omega arith; longest = more h }
      where
        more : total < x → (n : ℕ) → 0 < n → n ≤ suc (length xs) → total < sum (λ y. y) (take n (x ∷ xs))
        more h zero k l = absurd (omega arith)
        more h (suc n) k l = omega arith

-- how many it has, counted from a place on
pub front-stop : (rest : ℕ) (xs : List ℕ) (i : ℕ) → i < length xs → rest < get_or xs i 0 → length (front rest (drop i xs)) ≡ 0
unfolding front
front-stop rest xs i h k = rw (drop-cons xs i 0 h, lt-leb (get_or xs i 0) rest k)

pub front-more : (rest : ℕ) (xs : List ℕ) (i : ℕ) → i < length xs → get_or xs i 0 ≤ rest → length (front rest (drop i xs)) ≡ suc (length (front (rest - get_or xs i 0) (drop (i + 1) xs)))
unfolding front
front-more rest xs i h k = rw (drop-cons xs i 0 h, le-leb (get_or xs i 0) rest k, add-one)

pub front-end : (rest : ℕ) (xs : List ℕ) (i : ℕ) → length xs ≤ i → length (front rest (drop i xs)) ≡ 0
unfolding front
front-end rest xs i h = rw (drop_of_length-le xs h)
