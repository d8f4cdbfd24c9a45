-- Storing adds an order to those that rest, and clearing removes one.
use Rattle.std.specs.Prelude.{ℕ, ◌<◌, Bool, true, false, ◌⊎◌, ◌↔◌, ◌≢◌, ◌≡◌, T}
use Rattle.std.proofs.Common.{true≢false, inl, inr, ⊎_elim, sym, ap, subst, ◌∙◌}
use Rattle.lists.specs.Sums.{◌∈◌}
use Rattle.terms.specs.Bounds.{places}
use Rattle.terms.specs.Orders.{Resting, is_limit}
use Rattle.book.specs.declared.Book.{Book}
use Rattle.places.specs.Places.{is_taken}
use Rattle.book.specs.Columns.{order_from, order_at, stored, cleared}
use Rattle.book.specs.Writing.{Sized, SameAt, stored-taken, stored-order, stored-elsewhere, cleared-free, cleared-elsewhere}
use Rattle.book.specs.Resting.{resting}
use Rattle.book.specs.ByPlace.{resting-elim, resting-intro}
use Rattle.book.specs.Sound.{SoundBook, same_or_not}

-- an order at a place where two books are the same rests in both
carried : (b c : Book) (p : ℕ) → p < places → SameAt c b p → is_taken c.taken p ≡ true → {x : Resting} → x ≡ order_at c p → x ∈ resting b
carried b c p h (taken, raw) e {x} i = subst (λ (y : Resting). y ∈ resting b) (sym (i ∙ ap order_from raw)) (resting-intro b places p h (sym taken ∙ e))

-- A free place that takes an order: those that rested, and the order.
pub stored-resting : (b : Book) → Sized b → (place : ℕ) → place < places → is_taken b.taken place ≡ false → (o : Resting) → T (is_limit o.limit)
    → (x : Resting) → (x ∈ resting (stored b place o)) ↔ ((x ∈ resting b) ⊎ (x ≡ o))
stored-resting b sized place here free o w x = (to, ⊎_elim back new)
  where
    to : x ∈ resting (stored b place o) → (x ∈ resting b) ⊎ (x ≡ o)
    to m =
        let s = resting-elim (stored b place o) places m in
        ⊎_elim
        (λ i. inr (s.is ∙ ap (order_at (stored b place o)) i ∙ stored-order b sized place here o w))
        (λ n. inl (carried b (stored b place o) s.place s.below (stored-elsewhere b sized place here o s.place n) s.taken s.is))
        (same_or_not s.place place)

    back : x ∈ resting b → x ∈ resting (stored b place o)
    back m =
        let s = resting-elim b places m in
        let n : s.place ≢ place = λ i. true≢false (sym s.taken ∙ ap (is_taken b.taken) i ∙ free) in
        let (taken, raw) = stored-elsewhere b sized place here o s.place n in
        carried (stored b place o) b s.place s.below (sym taken, sym raw) s.taken s.is

    new : x ≡ o → x ∈ resting (stored b place o)
    new i =
        subst (λ (y : Resting). y ∈ resting (stored b place o)) (stored-order b sized place here o w ∙ sym i)
        (resting-intro (stored b place o) places place here (stored-taken b sized place here o))

-- A taken place that is cleared: those that rested, but for the one with its number.
pub cleared-resting : (legal : ℕ → Bool) (given : ℕ) (b : Book) → SoundBook legal given b → (place : ℕ) → place < places → is_taken b.taken place ≡ true
    → (x : Resting) → (x ∈ resting (cleared b place)) ↔ ((x ∈ resting b) × (x.number ≢ (order_at b place).number))
cleared-resting legal given b sound place here taken x = (to, back)
  where
    to : x ∈ resting (cleared b place) → (x ∈ resting b) × (x.number ≢ (order_at b place).number)
    to m =
        let s = resting-elim (cleared b place) places m in
        let n : s.place ≢ place = λ i. true≢false (sym s.taken ∙ ap (is_taken (cleared b place).taken) i ∙ cleared-free b sound.sized place here) in
        let same = cleared-elsewhere b sound.sized place here s.place n in (
          carried b (cleared b place) s.place s.below same s.taken s.is,
          λ i. n (sound.once s.place place s.below here (sym same.0 ∙ s.taken) taken (ap (λ (o : Resting). o.number) (sym (s.is ∙ ap order_from same.1)) ∙ i)),
        )

    back : (x ∈ resting b) × (x.number ≢ (order_at b place).number) → x ∈ resting (cleared b place)
    back (m, apart) =
        let s = resting-elim b places m in
        let n : s.place ≢ place = λ i. apart (ap (λ (o : Resting). o.number) (s.is ∙ ap (order_at b) i)) in
        let (same, raw) = cleared-elsewhere b sound.sized place here s.place n in
        carried (cleared b place) b s.place s.below (sym same, sym raw) s.taken s.is
