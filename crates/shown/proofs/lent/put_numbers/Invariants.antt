use Rattle.std.proofs.Common.{length, ◌≤◌, ◌≡◌}
use Rattle.shown.proofs.lent.put_numbers.Given as goal

abbrev pub invariant-loop-number : goal.invariant-loop-number
invariant-loop-number g l = (l.end ≤ length l.out) × (length l.out ≡ length l.initial.out)
