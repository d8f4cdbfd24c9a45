use Rattle.session.specs.Sound.{Sound}
use Rattle.auction_cost.proofs.filled.Given as goal

abbrev pub invariant-loop-order : goal.invariant-loop-order
invariant-loop-order l = Sound l.session
