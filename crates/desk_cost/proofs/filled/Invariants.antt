use Rattle.desk.specs.Sound.{SoundDesk}
use Rattle.desk_cost.proofs.filled.Given as goal

abbrev pub invariant-loop-order : goal.invariant-loop-order
invariant-loop-order l = SoundDesk l.desk
