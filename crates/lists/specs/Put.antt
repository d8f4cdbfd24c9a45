-- A text put into a list from a place on: it is written over what was there, and the rest stays.
use Rattle.std.specs.Prelude.{ℕ, suc, ◌+◌, ◌≤◌, ◌<◌, ◌≡◌, List, [], ◌∷◌, ◌++◌, length, get_or, set, take, drop}
use Rattle.std.proofs.Common.{sym, ap, ◌∙◌, append_assoc, add-one, arith, length-append, length-drop, length-take-le, take-suc, take_at, drop-drop}
use Rattle.std.proofs.Math.Seq.{drop-append-add, take-length, paste, paste-suc}
use Rattle.std.proofs.lemmas.List.{set_at, set-append_left}
use Rattle.std.proofs.lemmas.List.Edits.{sets-eq}

unfoldable pub put : List ℕ → ℕ → List ℕ → List ℕ
put out at text = take at out ++ text ++ drop (at + length text) out

-- what each call promises: the place behind the text, and the text put
abbrev pub Wrote : List ℕ → List ℕ → ℕ → ℕ → List ℕ → Type 0
Wrote old new at r text = (r ≡ at + length text) × (new ≡ put old at text)

pub put-nothing : (out : List ℕ) (at : ℕ) → at ≤ length out → out ≡ put out at []
unfolding put
put-nothing out at h = sets-eq [] out at (omega arith)

-- one byte
pub put-set : (out : List ℕ) (at b : ℕ) → at + 1 ≤ length out → set out at b ≡ put out at (b ∷ [])
unfolding put
put-set out at b h = sets-eq (b ∷ []) out at h

front_length : (out : List ℕ) (at : ℕ) (text : List ℕ) → at ≤ length out → length (take at out ++ text) ≡ at + length text
front_length out at text h = length-append (take at out) text ∙ ap (λ (n : ℕ). n + length text) (length-take-le at out h)

pub put-length : (out : List ℕ) (at : ℕ) (text : List ℕ) → at + length text ≤ length out → length (put out at text) ≡ length out
unfolding put
put-length out at text h = length-append (take at out ++ text) (drop (at + length text) out) ∙ rw (length-drop (at + length text) out) (omega (arith, front_length out at text (omega arith)))

-- what was put without the list growing had room
pub put-room : (out : List ℕ) (at : ℕ) (text : List ℕ) → at ≤ length out → length (put out at text) ≡ length out → at + length text ≤ length out
unfolding put
put-room out at text h e =
    let l : length (take at out ++ text ++ drop (at + length text) out) ≡ length (take at out ++ text) + length (drop (at + length text) out) = length-append (take at out ++ text) (drop (at + length text) out) in
    omega (arith, e, l, front_length out at text h)

-- a byte before a text that is put
pub put-before : (out : List ℕ) (at b : ℕ) (text : List ℕ) → at + 1 ≤ length out → set (put out (at + 1) text) at b ≡ put out at (b ∷ text)
unfolding put
put-before out at b text h =
    let e : at + 1 ≡ suc at = omega arith in
    let l : length (take (suc at) out) ≡ suc at = length-take-le (suc at) out (omega arith) in
    let d : suc at + length text ≡ at + suc (length text) = omega arith in
    rw (e, d)
    (set-append_left (take (suc at) out ++ text) (drop (at + suc (length text)) out) at b (omega (arith, front_length out (suc at) text (omega arith)))
    ∙ ap (λ (t : List ℕ). t ++ drop (at + suc (length text)) out)
    (set-append_left (take (suc at) out) text at b (omega (arith, l))
    ∙ ap (λ (t : List ℕ). t ++ text) (ap (λ (t : List ℕ). set t at b) (take-suc out at 0 (omega arith)) ∙ set_at (take at out) (get_or out at 0) [] b at (length-take-le at out (omega arith)))
    ∙ append_assoc (take at out) (b ∷ []) text))

-- a text pasted byte by byte
pub paste-next : (out : List ℕ) (at : ℕ) (text : List ℕ) (i : ℕ) → at + i < length out → i < length text → set (paste out at text i) (at + i) (get_or text i 0) ≡ paste out at text (i + 1)
paste-next out at text i h k = paste-suc out at text i 0 h k ∙ ap (λ (n : ℕ). paste out at text n) (sym (add-one i))

pub put-pasted : (out : List ℕ) (at : ℕ) (text : List ℕ) (i : ℕ) → i ≡ length text → paste out at text i ≡ put out at text
unfolding put
put-pasted out at text i e = rw e (ap (λ (t : List ℕ). take at out ++ t ++ drop (at + length text) out) (take-length text))

-- a text, and a text behind it
pub put-append : (out : List ℕ) (at : ℕ) (s t : List ℕ) → at ≤ length out → put (put out at s) (at + length s) t ≡ put out at (s ++ t)
unfolding put
put-append out at s t h =
    rw (take_at (take at out ++ s) (drop (at + length s) out) (at + length s) front, behind, append_assoc (take at out) s t, length-append s t, add)
  where
    front : length (take at out ++ s) ≡ at + length s
    front = front_length out at s h

    add : at + (length s + length t) ≡ at + length s + length t
    add = omega arith

    behind : drop (at + length s + length t) (take at out ++ s ++ drop (at + length s) out) ≡ drop (at + length s + length t) out
    behind =
        ap (λ (n : ℕ). drop (n + length t) (take at out ++ s ++ drop (at + length s) out)) (sym front)
        ∙ drop-append-add (take at out ++ s) (drop (at + length s) out) (length t)
        ∙ drop-drop (length t) (at + length s) out

-- two calls in a row
pub put_then : (out one two : List ℕ) (at p r : ℕ) (s t : List ℕ) → at ≤ length out → Wrote out one at p s → Wrote one two p r t → Wrote out two at r (s ++ t)
put_then out one two at p r s t h first second = (
  omega (arith, first.0, second.0, length-append s t),
  second.1 ∙ rw (first.0, first.1) (put-append out at s t h),
)
