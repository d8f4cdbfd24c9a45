-- Texts written one after another: the numbers of a line, and the lines of the trades.
use Rattle.std.specs.Prelude.{ℕ, ◌+◌, ◌*◌, ◌≤◌, ◌<◌, ◌≡◌, refl, List, [], ◌∷◌, ◌++◌, length, get_or, take}
use Rattle.std.proofs.Common.{sym, ◌∙◌, append_assoc, append-nil, suc-mul, add-one, arith, length-append, take-suc}
use Rattle.std.proofs.Math.Seq.{take-length}
use Rattle.text.specs.Text.{newline, numeral, texts}
use Rattle.lines.specs.Line.{numbers}
use Rattle.lists.specs.Put.{Wrote, put-nothing, put_then}

module _ {A : Type 0} (f : A → List ℕ) where
  pub texts-append : (xs : List A) (x : A) → texts f (xs ++ (x ∷ [])) ≡ texts f xs ++ f x
  texts-append [] x = append-nil (f x)
  texts-append (y ∷ xs) x = rw (texts-append xs x) (sym (append_assoc (f y) (texts f xs) (f x)))

  -- where no text is longer than a bound
  pub texts-length : (most : ℕ) → ((x : A) → length (f x) ≤ most) → (xs : List A) → length (texts f xs) ≤ length xs * most
  texts-length most h [] = omega arith
  texts-length most h (x ∷ xs) = rw (suc-mul (length xs) most) (omega (arith, length-append (f x) (texts f xs), h x, texts-length most h xs))

  -- the texts of these are written from a place on
  abbrev pub WroteAll : List ℕ → ℕ → List A → List ℕ → ℕ → Type 0
  WroteAll old at xs out end = (length out ≡ length old) × Wrote old out at end (texts f xs)

  pub all_none : (old : List ℕ) (at : ℕ) → at ≤ length old → WroteAll old at [] old at
  all_none old at room = (refl, (omega arith, put-nothing old at room))

  pub all-next : (old out new : List ℕ) (at end r : ℕ) (xs : List A) (x : A) → at ≤ length old → length new ≡ length out
      → WroteAll old at xs out end → Wrote out new end r (f x) → WroteAll old at (xs ++ (x ∷ [])) new r
  all-next old out new at end r xs x room l s w =
      (l ∙ s.0, rw (texts-append xs x) (put_then old out new at end r (texts f xs) (f x) room s.1 w))

-- the numbers of a line, one by one, and its end
module _ (old xs out new : List ℕ) (at end r i : ℕ) (room : at ≤ length old) where
  pub numbers-next : i < length xs → length new ≡ length out → WroteAll numeral old at (take i xs) out end → Wrote out new end r (numeral (get_or xs i 0))
      → WroteAll numeral old at (take (i + 1) xs) new r
  numbers-next h l s w = rw (add-one i, take-suc xs i 0 h) (all-next numeral old out new at end r (take i xs) (get_or xs i 0) room l s w)

  pub numbers-end : i ≡ length xs → WroteAll numeral old at (take i xs) out end → Wrote out new end r (newline ∷ []) → Wrote old new at r (numbers xs)
  numbers-end e s w = rw (e, take-length xs) at (put_then old out new at end r (texts numeral (take i xs)) (newline ∷ []) room s.1 w)
