use Rattle.std.proofs.Common.{arith, ◌*◌, get_or, []}
use Rattle.squares.specs.Square.{square_members}
use Rattle.owing.specs.Owing.{row_lines}
use Rattle.owing.specs.Lengths.{owes_most}
use Rattle.owing.specs.OneByOne.{first-none, first_next}
use Rattle.owing.proofs.put_square.Goals as goal

pub loop-row-init : goal.loop-row-init
loop-row-init c = let a = c.args in
    first-none (λ i. row_lines a.members.now (get_or a.members.now i 0) (get_or a.owed.now i [])) (square_members * owes_most) a.out.now a.at (omega (arith, c.requires))

pub loop-row-preserved : goal.loop-row-preserved
loop-row-preserved c = let l = c.loop-row in
    let a = c.args in
    first_next (λ i. row_lines a.members.now (get_or a.members.now i 0) (get_or a.owed.now i [])) (square_members * owes_most) a.out.now a.at (omega (arith, c.requires)) l.row l.out c.put_row-end.new.out l.end c.put_row-end.result c.put_row-end.auto.out l.invariant c.put_row-end.ensures
