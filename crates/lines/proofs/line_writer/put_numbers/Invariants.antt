-- Invariant: `WroteAll`, the numbers so far are written.
use Rattle.std.proofs.Common.{take}
use Rattle.text.specs.Text.{numeral}
use Rattle.lines.specs.OneByOne.{WroteAll}
use Rattle.lines.proofs.line_writer.put_numbers.Given as goal

abbrev pub invariant-loop-x : goal.invariant-loop-x
invariant-loop-x l = WroteAll numeral l.initial.out l.at (take l.x-index l.xs) l.out l.end
