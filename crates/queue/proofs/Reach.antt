-- What the resting orders of a sound book have: the premises of rank and of demand 3.
use Prim.Native.Nat.{ℕ, zero, suc, ◌≤◌, ◌<◌}
use Rattle.std.specs.Prelude.{Bool, ◌≡◌, leb}
use Rattle.std.proofs.Math.Bool.{true, false, cond}
use Rattle.std.proofs.Math.Path.{refl}
use Rattle.std.proofs.Common.{sym, ap, ◌∙◌, arith}
use mathlib.Core.List.{[], ◌∷◌, ◌++◌, append-nil}
use Rattle.lists.specs.Tests.{tests, and_both}
use Rattle.lists.specs.Sums.{◌∈◌}
use Rattle.terms.specs.Bounds.{places, min_quantity, max_quantity}
use Rattle.terms.specs.Orders.{Resting}
use Rattle.book.specs.declared.Book.{Book}
use Rattle.places.specs.Places.{is_taken}
use Rattle.book.specs.Columns.{order_at}
use Rattle.book.specs.Resting.{resting_to, resting}
use Rattle.book.specs.ByPlace.{resting-elim}
use Rattle.book.specs.Sound.{SoundOrder, SoundBook}
use Rattle.queue.specs.Distinct.{Distinct}
use Rattle.queue.proofs.Distinct.{distinct_snoc}

module _ (legal : ℕ → Bool) (given : ℕ) (b : Book) (sound : SoundBook legal given b) where
  -- every resting order may rest
  pub resting-sound : (o : Resting) → o ∈ resting b → SoundOrder legal given o
  resting-sound o m = let s = resting-elim b places m in rw s.is ((sound.each s.place s.below).rests s.taken)

  -- their numbers are distinct
  distinct-to : (n : ℕ) → n ≤ places → Distinct (resting_to b n)
  unfolding resting_to
  distinct-to zero h = tt
  distinct-to (suc n) h = go (is_taken b.taken n) refl (distinct-to n (omega arith))
    where
      go : (t : Bool) → is_taken b.taken n ≡ t → Distinct (resting_to b n) → Distinct (resting_to b n ++ cond t (order_at b n ∷ []) [])
      go true e d =
          distinct_snoc (resting_to b n) (order_at b n) d
          (λ x m i. let s = resting-elim b n m in
          let same : s.place ≡ n = sound.once s.place n (omega (arith, s.below)) (omega arith) s.taken e (ap (λ (o : Resting). o.number) (sym s.is) ∙ i) in
          omega (arith, s.below))
      go false e d = rw append-nil d

  pub resting-distinct : Distinct (resting b)
  resting-distinct = distinct-to places (omega arith)

  -- each has something open, and no more than the greatest quantity
  quantity-of : (o : Resting) → o ∈ resting b → (0 < o.left) × (o.left ≤ max_quantity)
  quantity-of o m = let (low, high) = and_both (leb min_quantity o.left) (leb o.left max_quantity) (resting-sound o m).open-quantity in (omega tests, omega tests)

  pub resting-live : (o : Resting) → o ∈ resting b → 0 < o.left
  resting-live o m = (quantity-of o m).0
