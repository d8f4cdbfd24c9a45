use Rattle.std.proofs.Common.{arith, get_or}
use Rattle.owing.specs.Owing.{owes_line}
use Rattle.owing.specs.Lengths.{owes_most}
use Rattle.owing.specs.OneByOne.{first-none, first_next}
use Rattle.owing.proofs.put_row.Goals as goal

pub loop-column-init : goal.loop-column-init
loop-column-init c = let a = c.args in
    first-none (λ j. owes_line a.buyer (get_or a.members.now j 0) (get_or a.cells.now j 0)) owes_most a.out.now a.at (omega (arith, c.requires))

pub loop-column-preserved : goal.loop-column-preserved
loop-column-preserved c = let l = c.loop-column in
    let a = c.args in
    first_next (λ j. owes_line a.buyer (get_or a.members.now j 0) (get_or a.cells.now j 0)) owes_most a.out.now a.at (omega (arith, c.requires)) l.column l.out c.put_cell-end.new.out l.end c.put_cell-end.result c.put_cell-end.auto.out l.invariant c.put_cell-end.ensures
