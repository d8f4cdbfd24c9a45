use Rattle.std.proofs.Common.{ℕ, sym, ap, ◌∙◌, append-nil, arith, set}
use Rattle.lists.specs.Over.{over-write, over-all}
use Rattle.squares.specs.Square.{row_at, row-length, cell-in-row}
use Rattle.squares.proofs.row_at.Goals as goal

-- the cell that is written is the row's, and with it one more cell is the row's
pub loop-column-preserved : goal.loop-column-preserved
loop-column-preserved c =
    let totals = c.args.totals.now in
    let l = c.loop-column in
    let long = row-length totals c.requires.0 c.args.row c.requires.1 in
    ap (λ (n : ℕ). set l.cell-items l.column n) (sym (cell-in-row totals c.args.row l.column (omega arith)))
    ∙ rw l.invariant (over-write (row_at totals c.args.row) _ l.column (omega (arith, long)) (omega arith))

pub returns : goal.returns
returns c =
    let row = row_at c.args.totals.now c.args.row in
    let long = row-length c.args.totals.now c.requires.0 c.args.row c.requires.1 in
    c.loop-column.invariant ∙ over-all row _ c.loop-column.column (omega (arith, long)) ∙ rw long (append-nil row)
