-- Invariant: `Counted`, the digits taken off and those still to be counted.
use Rattle.text.specs.Decimal.{Counted}
use Rattle.text.proofs.count_digits.Given as goal

abbrev pub invariant-loop-rest : goal.invariant-loop-rest
invariant-loop-rest l = Counted l.x l.n l.rest

abbrev pub decreases-loop-rest : goal.decreases-loop-rest
decreases-loop-rest l = l.rest
