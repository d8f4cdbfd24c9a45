use Rattle.std.proofs.Common.{◌-◌, ◌≤◌, length}
use Rattle.session.specs.Sound.{Sound}
use Rattle.looks.proofs.walk.Given as goal

abbrev pub invariant-loop-record : goal.invariant-loop-record
invariant-loop-record g l = Sound l.session × (l.place ≤ length l.file) × (l.count ≤ l.place)

abbrev pub decreases-loop-record : goal.decreases-loop-record
decreases-loop-record g l = length l.file - l.place
