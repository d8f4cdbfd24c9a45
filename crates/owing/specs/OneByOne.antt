-- Lines written one after another: a cell's, by columns, by rows.
use Rattle.std.specs.Prelude.{ℕ, ◌+◌, ◌*◌, ◌≤◌, ◌≢◌, ◌≡◌, refl, List, [], ◌∷◌, ◌++◌, length}
use Rattle.std.proofs.Common.{subst, ◌∙◌, append_assoc, add-one, ne_eqb}
use Rattle.std.proofs.Math.Nat.{suc-mul}
use native.Mathlib.Omega.{arith}
use Rattle.lists.specs.Put.{Wrote, put-nothing, put_then}
use Rattle.terms.specs.Bounds.{max_member}
use Rattle.lines.specs.Line.{numbers}
use Rattle.squares.specs.Square.{square_of, total}
use Rattle.desk.specs.declared.{Desk.Desk}
use Rattle.owing.specs.Owing.{owes_word, total_word, owes_line, first_texts, square_lines, owed_lines}
use Rattle.owing.specs.Lengths.{owes_most, owes-short}

-- a text that is no longer than a bound says
abbrev pub WroteWithin : ℕ → List ℕ → List ℕ → ℕ → ℕ → List ℕ → Type 0
WroteWithin most old new at r text = Wrote old new at r text × (r ≤ at + most)

-- the line of a cell
module _ (old : List ℕ) (at buyer seller quantity : ℕ) (room : at ≤ length old) where
  pub cell-silent : quantity ≡ 0 → WroteWithin owes_most old old at at (owes_line buyer seller quantity)
  cell-silent e = rw e ((omega arith, put-nothing old at room), omega arith)

  pub cell-told : quantity ≢ 0 → buyer ≤ max_member → seller ≤ max_member → {one new : List ℕ} {p r : ℕ} → Wrote old one at p owes_word → Wrote one new p r (numbers (buyer ∷ seller ∷ quantity ∷ []))
      → WroteWithin owes_most old new at r (owes_line buyer seller quantity)
  cell-told h b s {one} {new} {p} {r} first second =
      let line : Wrote old new at r (owes_line buyer seller quantity) = rw (ne_eqb quantity 0 h) (put_then old one new at p r owes_word (numbers (buyer ∷ seller ∷ quantity ∷ [])) room first second) in
      (line, omega (arith, line.0, owes-short buyer seller quantity b s))

-- the texts of the first n, none longer than a bound says
abbrev pub WroteFirst : (ℕ → List ℕ) → ℕ → List ℕ → ℕ → ℕ → List ℕ → ℕ → Type 0
WroteFirst f most old at n out end = (length out ≡ length old) × WroteWithin (n * most) old out at end (first_texts f n)

module _ (f : ℕ → List ℕ) (most : ℕ) (old : List ℕ) (at : ℕ) (room : at ≤ length old) where
  pub first-none : WroteFirst f most old at 0 old at
  unfolding first_texts
  first-none = (refl, ((omega arith, put-nothing old at room), omega arith))

  pub first_next : (n : ℕ) (out new : List ℕ) (end r : ℕ) → length new ≡ length out → WroteFirst f most old at n out end → WroteWithin most out new end r (f n)
      → WroteFirst f most old at (n + 1) new r
  unfolding first_texts
  first_next n out new end r l s w = rw (add-one n, suc-mul n most) (l ∙ s.0, (put_then old out new at end r (first_texts f n) (f n) room s.1.0 w.0, omega (arith, s.1.1, w.1)))

-- the rows, and the total behind them
pub owed-told : (d : Desk) (owed : List (List ℕ)) (sum : ℕ) (old one two new : List ℕ) (at end p r : ℕ) → at ≤ length old → owed ≡ square_of d.totals → sum ≡ total d.totals
    → Wrote old one at end (square_lines d.members owed) → Wrote one two end p total_word → Wrote two new p r (numbers (sum ∷ [])) → Wrote old new at r (owed_lines d)
unfolding owed_lines
owed-told d owed sum old one two new at end p r room e f rows word behind =
    rw (← e, ← f)
    (subst (λ (t : List ℕ). Wrote old new at r t) (append_assoc (square_lines d.members owed) total_word (numbers (sum ∷ [])))
    (put_then old two new at p r (square_lines d.members owed ++ total_word) (numbers (sum ∷ [])) room (put_then old one two at end p (square_lines d.members owed) total_word room rows word) behind))
