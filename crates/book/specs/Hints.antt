-- Hints: what a place with the number sought says of all others.
use Rattle.std.specs.Prelude.{ℕ, ◌≤◌, ◌<◌, Bool, true, false, ◌&&◌, ◌≡◌, refl, List, eqb, get_or}
use Rattle.std.proofs.Common.{true≢false, sym, ap, ◌∙◌, arith, eqb-true, eq-eqb}
use Rattle.terms.specs.Bounds.{places}
use Rattle.places.specs.Places.{is_taken}
use Rattle.book.specs.declared.Book.{Book}
use Rattle.book.specs.Resting.{place_in, is_sought}
use Rattle.book.specs.Groups.{first-nowhere, first-is}
use Rattle.book.specs.Sound.{SoundBook}

-- no number stands at two taken places, and none is above the last one given
pub record Numbered (taken numbers : List ℕ) (given : ℕ) : Type 0 where
  pub once : (p q : ℕ) → p < places → q < places → is_taken taken p ≡ true → is_taken taken q ≡ true → get_or numbers p 0 ≡ get_or numbers q 0 → p ≡ q
  pub given-already : (p : ℕ) → p < places → is_taken taken p ≡ true → get_or numbers p 0 ≤ given

pub sound-numbered : (legal : ℕ → Bool) (given : ℕ) (b : Book) → SoundBook legal given b → Numbered b.taken b.number given
sound-numbered legal given b sound = record {
  once = sound.once;
  given-already = λ p h e. ((sound.each p h).rests e).given-already;
}

pub both : (a b c : Bool) → a && (b && c) ≡ true → (a ≡ true) × (b ≡ true) × (c ≡ true)
both true true c h = (refl, refl, h)
both true false c h = absurd (true≢false (sym h))
both false b c h = absurd (true≢false (sym h))

pub never : (b : Bool) → (b ≡ true → ⊥) → b ≡ false
never true h = absurd (h refl)
never false h = refl

module _ (taken numbers members : List ℕ) (number member : ℕ) where
  abbrev sought : ℕ → Bool
  sought = is_sought taken numbers members number member

  module _ (given : ℕ) (known : Numbered taken numbers given) where
    pub place-not-given : given < number → places ≡ place_in taken numbers members number member 0 places
    place-not-given above =
        sym (first-nowhere sought places 0 (λ p k l. never (sought p) (λ e.
        let t = both (is_taken taken p) (eqb (get_or numbers p 0) number) (eqb (get_or members p 0) member) e in
        omega (arith, known.given-already p (omega arith) t.0, eqb-true (get_or numbers p 0) number t.1))))

    -- a taken place has the number: it is the one, or there is none
    module _ (place : ℕ) (here : place < places) (is-taken : is_taken taken place ≡ true) (same : get_or numbers place 0 ≡ number) where
      -- no other place is sought
      only : (p : ℕ) → p < places → sought p ≡ true → (p ≡ place) × (get_or members p 0 ≡ member)
      only p h e =
          let t = both (is_taken taken p) (eqb (get_or numbers p 0) number) (eqb (get_or members p 0) member) e in
          (known.once p place h here t.0 is-taken (eqb-true (get_or numbers p 0) number t.1 ∙ sym same), eqb-true (get_or members p 0) member t.2)

      pub place-of-member : get_or members place 0 ≡ member → place ≡ place_in taken numbers members number member 0 places
      place-of-member e =
          sym (first-is sought places place here (rw (is-taken, eq-eqb _ _ same, eq-eqb _ _ e)) (λ q l. never (sought q) (λ i. omega (arith, (only q (omega arith) i).0))))

      pub place-of-another : (get_or members place 0 ≡ member → ⊥) → places ≡ place_in taken numbers members number member 0 places
      place-of-another n =
          sym (first-nowhere sought places 0 (λ p k l. never (sought p) (λ i.
          let o = only p (omega arith) i in n (ap (λ (x : ℕ). get_or members x 0) (sym o.0) ∙ o.1))))
