-- A changed book, place by place: every resting order is changed at its own place, or leaves it; free places stay free.
use Prim.Native.Nat.{ℕ, zero, suc, ◌≤◌, ◌<◌}
use Rattle.std.specs.Prelude.{Bool, true, false, cond, ◌↔◌, ◌≢◌, ◌≡◌, refl}
use Rattle.std.proofs.Common.{true≢false, sym, ap, ◌∙◌}
use Rattle.std.proofs.Math.Option.{Option, none, some, none-ne-some, some-injective}
use Rattle.std.proofs.Math.Logic.{⊎_elim}
use Rattle.std.proofs.Math.Path.{subst}
use native.Mathlib.Omega.{arith}
use Rattle.lists.specs.Sums.{◌∈◌}
use Rattle.terms.specs.Bounds.{places}
use Rattle.terms.specs.Orders.{Resting}
use Rattle.book.specs.declared.Book.{Book}
use Rattle.places.specs.Places.{is_taken}
use Rattle.book.specs.Columns.{values_at, values_of, order_from, order_at, empty_values, stored, cleared}
use Rattle.book.specs.Writing.{Sized, SameAt, stored-taken, stored-raw, stored-order, stored-elsewhere, stored-sized, cleared-free, cleared-raw, cleared-elsewhere, cleared-sized}
use Rattle.book.specs.Resting.{resting, put_back, changed_at, changed_to, changed}
use Rattle.book.specs.ByPlace.{resting-elim, resting-intro}
use Rattle.book.specs.Sound.{SoundOrder, SoundBook, SameQuote, same_or_not, changed-sound, cleared-sound}

-- what stands at a place afterwards
pub record AfterAt (change : Resting → Option Resting) (b c : Book) (p : ℕ) : Type 0 where
  pub free : is_taken b.taken p ≡ false → (is_taken c.taken p ≡ false) × (values_at c p ≡ values_at b p)
  pub gone : is_taken b.taken p ≡ true → change (order_at b p) ≡ none → (is_taken c.taken p ≡ false) × (values_at c p ≡ empty_values)
  pub left : (o : Resting) → is_taken b.taken p ≡ true → change (order_at b p) ≡ some o → (is_taken c.taken p ≡ true) × (order_at c p ≡ o)

module _ (change : Resting → Option Resting) where
  -- one place: it is free, or its order goes, or something is left of it
  changed-cases : (P : Book → Type 0) (b : Book) (place : ℕ)
      → (is_taken b.taken place ≡ false → P b)
      → (is_taken b.taken place ≡ true → change (order_at b place) ≡ none → P (cleared b place))
      → ((o : Resting) → is_taken b.taken place ≡ true → change (order_at b place) ≡ some o → P (stored b place o))
      → P (changed_at change b place)
  changed-cases P b place free gone left = go (is_taken b.taken place) refl (change (order_at b place)) refl
    where
      go : (t : Bool) → is_taken b.taken place ≡ t → (r : Option Resting) → change (order_at b place) ≡ r → P (cond t (put_back b place r) b)
      go false e r f = free e
      go true e none f = gone e f
      go true e (some o) f = left o e f

  step-sized : (b : Book) → Sized b → (place : ℕ) → place < places → Sized (changed_at change b place)
  step-sized b sized place here = changed-cases Sized b place (λ e. sized) (λ e f. cleared-sized b sized place here) (λ o e f. stored-sized b sized place here o)

  step-elsewhere : (b : Book) → Sized b → (place : ℕ) → place < places → (p : ℕ) → p ≢ place → SameAt (changed_at change b place) b p
  step-elsewhere b sized place here p n =
      changed-cases (λ c. SameAt c b p) b place (λ e. (refl, refl)) (λ e f. cleared-elsewhere b sized place here p n) (λ o e f. stored-elsewhere b sized place here o p n)

  to-sized : (b : Book) → Sized b → (n : ℕ) → n ≤ places → Sized (changed_to change b n)
  unfolding changed_to
  to-sized b sized zero h = sized
  to-sized b sized (suc n) h = step-sized (changed_to change b n) (to-sized b sized n (omega arith)) n (omega arith)

  -- places not reached yet are as before
  pub changed-to-later : (b : Book) → Sized b → (n p : ℕ) → n ≤ p → p < places → SameAt (changed_to change b n) b p
  unfolding changed_to
  changed-to-later b sized zero p h k = (refl, refl)
  changed-to-later b sized (suc n) p h k =
      let (taken, raw) = step-elsewhere (changed_to change b n) (to-sized b sized n (omega arith)) n (omega arith) p (λ i. omega arith) in
      let (taken', raw') = changed-to-later b sized n p (omega arith) k in
      (taken ∙ taken', raw ∙ raw')

  -- the book before, and the one after, count at the place only
  after-from : {a b c : Book} {p : ℕ} → SameAt a b p → AfterAt change a c p → AfterAt change b c p
  after-from (taken, raw) after = record {
    free = λ e. let (t, r) = after.free (taken ∙ e) in (t, r ∙ raw);
    gone = λ e f. after.gone (taken ∙ e) (ap change (ap order_from raw) ∙ f);
    left = λ o e f. after.left o (taken ∙ e) (ap change (ap order_from raw) ∙ f);
  }

  after-to : {b c d : Book} {p : ℕ} → SameAt d c p → AfterAt change b c p → AfterAt change b d p
  after-to (taken, raw) after = record {
    free = λ e. let (t, r) = after.free e in (taken ∙ t, raw ∙ r);
    gone = λ e f. let (t, r) = after.gone e f in (taken ∙ t, raw ∙ r);
    left = λ o e f. let (t, r) = after.left o e f in (taken ∙ t, ap order_from raw ∙ r);
  }

-- what an order keeps while it rests
pub record Keeps (o' o : Resting) : Type 0 where
  pub number : o'.number ≡ o.number
  pub member : o'.member ≡ o.member
  pub side : o'.side ≡ o.side
  pub quoted : o'.quoted ≡ o.quoted

-- What is left of a sound order is sound, under the same number, of the same member, side and quote.
module _ (legal : ℕ → Bool) (given : ℕ) (change : Resting → Option Resting)
    (keeps : (o o' : Resting) → SoundOrder legal given o → change o ≡ some o' → SoundOrder legal given o' × Keeps o' o) where
  -- .. one place
  module _ (b : Book) (sound : SoundBook legal given b) (place : ℕ) (here : place < places) where
    left-order : (o : Resting) → is_taken b.taken place ≡ true → change (order_at b place) ≡ some o → order_at (stored b place o) place ≡ o
    left-order o e f =
        let (good, same) = keeps (order_at b place) o ((sound.each place here).rests e) f in
        stored-order b sound.sized place here o good.limit-in-range

    left-sound : (o : Resting) → is_taken b.taken place ≡ true → change (order_at b place) ≡ some o → SoundBook legal given (stored b place o)
    left-sound o e f =
        let (good, same) = keeps (order_at b place) o ((sound.each place here).rests e) f in
        let back = left-order o e f in
        changed-sound legal given given (omega arith) b (stored b place o) sound place (stored-sized b sound.sized place here o) (stored-elsewhere b sound.sized place here o)
        (record {
          free = λ g. absurd (true≢false (sym (stored-taken b sound.sized place here o) ∙ g));
          coded = λ g. ap values_of back ∙ sym (stored-raw b sound.sized place here o);
          rests = λ g. rw back good;
        })
        (λ p n h g k i. n (sound.once p place h here g e (i ∙ ap (λ (x : Resting). x.number) back ∙ same.number)))
        (λ p n h g k i. let j : SameQuote (order_at b p) o = subst (λ (x : Resting). SameQuote (order_at b p) x) back i in
        n (sound.one-quote p place h here g e (record { first = j.first; second = sym same.quoted ∙ j.second; member = j.member ∙ same.member; side = j.side ∙ same.side })))

    step-sound : SoundBook legal given (changed_at change b place)
    step-sound = changed-cases change (SoundBook legal given) b place (λ e. sound) (λ e f. cleared-sound legal given b sound place here) left-sound

    step_after : AfterAt change b (changed_at change b place) place
    step_after =
        changed-cases change (λ c. AfterAt change b c place) b place
        (λ e. record {
          free = λ g. (g, refl);
          gone = λ g f. absurd (true≢false (sym g ∙ e));
          left = λ o g f. absurd (true≢false (sym g ∙ e));
        })
        (λ e f. record {
          free = λ g. absurd (true≢false (sym e ∙ g));
          gone = λ g h. (cleared-free b sound.sized place here, cleared-raw b sound.sized place here);
          left = λ o g h. absurd (none-ne-some o (sym f ∙ h));
        })
        (λ o e f. record {
          free = λ g. absurd (true≢false (sym e ∙ g));
          gone = λ g h. absurd (none-ne-some o (sym h ∙ f));
          left = λ x g h. (stored-taken b sound.sized place here o, left-order o e f ∙ some-injective o x (sym f ∙ h));
        })

  module _ (b : Book) (sound : SoundBook legal given b) where
    to-sound : (n : ℕ) → n ≤ places → SoundBook legal given (changed_to change b n)
    unfolding changed_to
    to-sound zero h = sound
    to-sound (suc n) h = step-sound (changed_to change b n) (to-sound n (omega arith)) n (omega arith)

    pub changed-book-sound : SoundBook legal given (changed change b)
    changed-book-sound = to-sound places (omega arith)

    to-after : (n p : ℕ) → p < n → n ≤ places → AfterAt change b (changed_to change b n) p
    unfolding changed_to
    to-after zero p h k = absurd (omega arith)
    to-after (suc n) p h k =
        ⊎_elim
        (λ i. subst (λ (q : ℕ). AfterAt change b (changed_at change (changed_to change b n) n) q) (sym i)
        (after-from change (changed-to-later change b sound.sized n n (omega arith) (omega arith)) (step_after (changed_to change b n) (to-sound n (omega arith)) n (omega arith))))
        (λ m. after-to change (step-elsewhere change (changed_to change b n) (to-sound n (omega arith)).sized n (omega arith) p m) (to-after n p (earlier m) (omega arith)))
        (same_or_not p n)
      where
        earlier : p ≢ n → p < n
        earlier m = omega arith

    pub changed-at : (p : ℕ) → p < places → AfterAt change b (changed change b) p
    changed-at p h = to-after places p h (omega arith)

    -- What rests afterwards is what is left of what rested.
    pub changed-resting : (x : Resting) → (x ∈ resting (changed change b)) ↔ ((o : Resting) × (o ∈ resting b) × (change o ≡ some x))
    changed-resting x = (to, back)
      where
        to : x ∈ resting (changed change b) → (o : Resting) × (o ∈ resting b) × (change o ≡ some x)
        to m =
            let s = resting-elim (changed change b) places m in
            let after = changed-at s.place s.below in
            go s.place s.below s.taken s.is after (is_taken b.taken s.place) refl (change (order_at b s.place)) refl
          where
            go : (p : ℕ) → p < places → is_taken (changed change b).taken p ≡ true → x ≡ order_at (changed change b) p → AfterAt change b (changed change b) p
                → (t : Bool) → is_taken b.taken p ≡ t → (r : Option Resting) → change (order_at b p) ≡ r → (o : Resting) × (o ∈ resting b) × (change o ≡ some x)
            go p h taken is after false e r f = absurd (true≢false (sym taken ∙ (after.free e).0))
            go p h taken is after true e none f = absurd (true≢false (sym taken ∙ (after.gone e f).0))
            go p h taken is after true e (some o) f = (order_at b p, resting-intro b places p h e, f ∙ ap some (sym (is ∙ (after.left o e f).1)))

        back : (o : Resting) × (o ∈ resting b) × (change o ≡ some x) → x ∈ resting (changed change b)
        back (o, m, f) =
            let s = resting-elim b places m in
            let (taken, is) = (changed-at s.place s.below).left x s.taken (ap change (sym s.is) ∙ f) in
            subst (λ (y : Resting). y ∈ resting (changed change b)) is (resting-intro (changed change b) places s.place s.below taken)
