-- Nothing for a cell that is 0; else the word, then the numbers.
use native.Mathlib.Omega.{arith}
use Rattle.owing.specs.OneByOne.{cell-silent, cell-told}
use Rattle.owing.proofs.put_cell.Goals as goal

pub returns-then-is_empty : goal.returns-then-is_empty
returns-then-is_empty c = let a = c.args in
    cell-silent a.out.now a.at a.buyer a.seller a.quantity (omega (arith, c.requires)) c.if-is_empty.true

pub returns : goal.returns
returns c = let a = c.args in
    cell-told a.out.now a.at a.buyer a.seller a.quantity (omega (arith, c.requires)) c.if-is_empty.false (omega (arith, c.ranges.buyer)) (omega (arith, c.ranges.seller)) c.put_bytes-p.ensures (rw (c.from.ensures, c.from-2.ensures) at c.put_numbers.ensures)
