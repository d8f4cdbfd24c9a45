use Rattle.session.specs.Sound.{Sound}
use Rattle.entry_cost.proofs.filled.Given as goal

abbrev pub invariant-loop : goal.invariant-loop
invariant-loop l = Sound l.session
