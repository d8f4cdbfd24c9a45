use Rattle.std.proofs.Common.{◌+◌, ◌-◌, ◌≤◌, length}
use Rattle.rewrite.specs.Rewriting.{Going}
use Rattle.rewrite.proofs.copy.rewritten.Given as goal

abbrev pub invariant-loop-record : goal.invariant-loop-record
invariant-loop-record l = Going l.file l.initial.out l.out l.place l.end × (l.place ≤ length l.file) × (l.count ≤ l.place + 1)

abbrev pub decreases-loop-record : goal.decreases-loop-record
decreases-loop-record l = length l.file - l.place
