-- Invariant: the lines of the columns so far are written.
use Rattle.std.proofs.Common.{get_or}
use Rattle.owing.specs.Owing.{owes_line}
use Rattle.owing.specs.Lengths.{owes_most}
use Rattle.owing.specs.OneByOne.{WroteFirst}
use Rattle.owing.proofs.put_row.Given as goal

abbrev pub invariant-loop-column : goal.invariant-loop-column
invariant-loop-column l = WroteFirst (λ j. owes_line l.buyer (get_or l.members j 0) (get_or l.cells j 0)) owes_most l.initial.out l.at l.column l.out l.end
