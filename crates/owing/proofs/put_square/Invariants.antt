-- Invariant: the lines of the rows so far are written.
use Rattle.std.proofs.Common.{◌*◌, get_or, []}
use Rattle.squares.specs.Square.{square_members}
use Rattle.owing.specs.Owing.{row_lines}
use Rattle.owing.specs.Lengths.{owes_most}
use Rattle.owing.specs.OneByOne.{WroteFirst}
use Rattle.owing.proofs.put_square.Given as goal

abbrev pub invariant-loop-row : goal.invariant-loop-row
invariant-loop-row l = WroteFirst (λ i. row_lines l.members (get_or l.members i 0) (get_or l.owed i [])) (square_members * owes_most) l.initial.out l.at l.row l.out l.end
