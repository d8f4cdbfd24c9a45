-- Invariant: `Shown`, the digits written and those still to come.
use Rattle.text.specs.Decimal.{Shown}
use Rattle.text.proofs.put_digits.Given as goal

abbrev pub invariant-loop-i : goal.invariant-loop-i
invariant-loop-i l = Shown l.x l.at l.initial.out l.out l.i l.rest
