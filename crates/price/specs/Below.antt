-- Fronts: what the first orders of a ranked queue have open in all, and how a front comes to those whose ranks are below a bound.
use Prim.Native.Nat.{ℕ, zero, suc, ◌+◌, ◌-◌, ◌*◌, ◌≤◌, ◌<◌}
use Rattle.std.specs.Prelude.{Bool, ◌≡◌, leb, length}
use Rattle.std.proofs.Math.Bool.{true, false, cond}
use Rattle.std.proofs.Common.{⊎_elim, ap, add-one}
use Rattle.std.proofs.Math.Path.{refl}
use mathlib.Core.List.Memᴰ
use mathlib.Core.List.{List, [], ◌∷◌}
use native.Mathlib.Omega.{arith}
use Rattle.std.proofs.Math.Dec.{ltb}
use Rattle.std.proofs.Math.ListN.{get_or}
use borrow.Author.Tests.{ltb-true, ltb-false}
use Rattle.std.specs.Coded.{×_prop, Π_prop, Unit-prop}
use lib.Dec.{T_prop}
use Rattle.lists.specs.Tests.{tests, decided}
use Rattle.lists.specs.Sums.{◌∈◌}
use Rattle.lists.specs.Ranking.{Ranked}
use Rattle.queue.specs.RankNumbers.{place_of_rank}
use Rattle.price.specs.Search.{sum_below}

-- a list is in rank order in one way
pub Ranked-prop : (xs : List ℕ) → IsProp (Ranked leb xs)
Ranked-prop [] = Unit-prop
Ranked-prop (x ∷ xs) = ×_prop (Π_prop (λ y. Π_prop (λ m. T_prop (leb x y)))) (Ranked-prop xs)

-- what the first k orders have open
unfoldable pub first_sum : List ℕ → List ℕ → ℕ → ℕ
first_sum lefts [] k = 0
first_sum lefts (r ∷ ranks) zero = 0
first_sum lefts (r ∷ ranks) (suc k) = get_or lefts (place_of_rank r) 0 + first_sum lefts ranks k

module _ (lefts : List ℕ) where
  first-none : (ranks : List ℕ) → first_sum lefts ranks 0 ≡ 0
  unfolding first_sum
  first-none [] = refl
  first-none (r ∷ ranks) = refl

  first_more : (ranks : List ℕ) (k : ℕ) → k < length ranks → first_sum lefts ranks (suc k) ≡ first_sum lefts ranks k + get_or lefts (place_of_rank (get_or ranks k 0)) 0
  unfolding first_sum
  first_more [] k h = absurd (omega arith)
  first_more (r ∷ ranks) zero h = omega (arith, first-none ranks)
  first_more (r ∷ ranks) (suc k) h = omega (arith, first_more ranks k (omega arith))

  first-mono : (ranks : List ℕ) (k m : ℕ) → k ≤ m → first_sum lefts ranks k ≤ first_sum lefts ranks m
  unfolding first_sum
  first-mono [] k m h = omega arith
  first-mono (r ∷ ranks) zero m h = omega arith
  first-mono (r ∷ ranks) (suc k) zero h = absurd (omega arith)
  first-mono (r ∷ ranks) (suc k) (suc m) h = omega (arith, first-mono ranks k m (omega arith))

  -- the first k are below the bound and the next is not
  first_below : (bound : ℕ) (ranks : List ℕ) (k : ℕ) → k ≤ length ranks → ((i : ℕ) → i < k → get_or ranks i 0 < bound) → (k < length ranks → bound ≤ get_or ranks k 0)
      → first_sum lefts ranks k ≡ sum_below bound lefts ranks
  unfolding first_sum sum_below
  first_below bound [] k h before next = refl
  first_below bound (r ∷ ranks) zero h before next = go (ltb r bound) refl
    where
      go : (b : Bool) → ltb r bound ≡ b → 0 ≡ cond b (get_or lefts (place_of_rank r) 0 + sum_below bound lefts ranks) 0
      go true e = absurd (omega (arith, ltb-true r bound e, next (omega arith)))
      go false e = refl
  first_below bound (r ∷ ranks) (suc k) h before next = go (ltb r bound) refl (first_below bound ranks k (omega arith) (λ i l. before (suc i) (omega arith)) (λ l. next (omega arith)))
    where
      go : (b : Bool) → ltb r bound ≡ b → first_sum lefts ranks k ≡ sum_below bound lefts ranks
          → get_or lefts (place_of_rank r) 0 + first_sum lefts ranks k ≡ cond b (get_or lefts (place_of_rank r) 0 + sum_below bound lefts ranks) 0
      go true e below = omega arith
      go false e below = absurd (omega (arith, ltb-false r bound e, before 0 (omega arith)))

entry_in : (xs : List ℕ) (i : ℕ) → i < length xs → get_or xs i 0 ∈ xs
entry_in [] i h = absurd (omega arith)
entry_in (x ∷ xs) zero h = Memᴰ.head refl
entry_in (x ∷ xs) (suc i) h = Memᴰ.tail (entry_in xs i (omega arith))

-- a later entry is no lower
ascending : (xs : List ℕ) (i j : ℕ) → Ranked leb xs → i ≤ j → j < length xs → get_or xs i 0 ≤ get_or xs j 0
ascending [] i j r h k = absurd (omega arith)
ascending (x ∷ xs) zero zero r h k = omega arith
ascending (x ∷ xs) zero (suc j) (first, r) h k = omega (tests, first (get_or xs j 0) (entry_in xs j (omega arith)))
ascending (x ∷ xs) (suc i) zero r h k = absurd (omega arith)
ascending (x ∷ xs) (suc i) (suc j) (first, r) h k = ascending xs i j r (omega arith) (omega arith)

-- A front: so many first orders, and what they have open. The longest one met was added up of numbers of 32 bits, so that none wraps.
module _ (lefts ranks : List ℕ) where
  pub record IsFront (count total : ℕ) : Type 0 where
    pub within : count ≤ length ranks
    pub adds : total ≡ first_sum lefts ranks count
    pub met : ℕ
    pub longest : count ≤ met
    pub known : met ≤ length ranks
    pub fits : first_sum lefts ranks met ≤ met * 4294967295

  pub front-none : IsFront 0 0
  front-none = record { within = omega arith; adds = omega (arith, first-none lefts ranks); met = 0; longest = omega arith; known = omega arith; fits = omega (arith, first-none lefts ranks) }

  module _ (count total : ℕ) (f : IsFront count total) where
    pub front_fits : total ≤ length ranks * 4294967295
    front_fits = omega (arith, f.adds, first-mono lefts ranks count f.met f.longest, f.fits, f.known)

    pub front-longer : (left : ℕ) → count < length ranks → left ≡ get_or lefts (place_of_rank (get_or ranks count 0)) 0 → left ≤ 4294967295 → IsFront (count + 1) (total + left)
    front-longer left h e small = ⊎_elim
        (λ t. record { within = omega arith; adds = sums; met = f.met; longest = omega tests; known = f.known; fits = f.fits })
        (λ t. record { within = omega arith; adds = sums; met = count + 1; longest = omega arith; known = omega arith; fits = let i : f.met ≡ count = omega (tests, f.longest) in omega (arith, sums, f.adds, f.fits, ap (first_sum lefts ranks) i) })
        (decided (ltb count f.met))
      where
        sums : total + left ≡ first_sum lefts ranks (count + 1)
        sums = rw (add-one) (omega (arith, f.adds, first_more lefts ranks count h))

    last_more : 0 < count → first_sum lefts ranks count ≡ first_sum lefts ranks (count - 1) + get_or lefts (place_of_rank (get_or ranks (count - 1) 0)) 0
    last_more h = let i : suc (count - 1) ≡ count = omega arith in rw i at (first_more lefts ranks (count - 1) (omega (arith, f.within)))

    module _ (left : ℕ) (h : 0 < count) (e : left ≡ get_or lefts (place_of_rank (get_or ranks (count - 1) 0)) 0) where
      pub front-has : left ≤ total
      front-has = omega (arith, f.adds, last_more h)

      pub front-shorter : IsFront (count - 1) (total - left)
      front-shorter = record {
        within = omega (arith, f.within);
        adds = omega (arith, f.adds, last_more h);
        met = f.met;
        longest = omega (arith, f.longest);
        known = f.known;
        fits = f.fits;
      }

    -- where the last is below the bound and the next is not, it is what is below
    pub front_below : (bound : ℕ) → Ranked leb ranks → (0 < count → get_or ranks (count - 1) 0 < bound) → (count < length ranks → bound ≤ get_or ranks count 0) → total ≡ sum_below bound lefts ranks
    front_below bound r last next = rw f.adds (first_below lefts bound ranks count f.within (λ i h. omega (arith, ascending ranks i (count - 1) r (omega arith) (omega (arith, f.within)), last (omega arith))) next)
