use Rattle.std.proofs.Common.{◌+◌, ◌≤◌, ◌≡◌, length}
use Rattle.terms.specs.Bounds.{trade_list_length}
use Rattle.desk_steps.specs.Steps.{Reached}
use Rattle.clearing.proofs.walk.Given as goal

abbrev pub invariant-loop-left : goal.invariant-loop-left
invariant-loop-left g l =
    Reached l.desk × (l.held.from ≤ l.held.to) × (l.held.to ≤ length l.input) × (length l.input ≡ length l.initial.input) × (length l.out ≡ length l.initial.out) × (l.at ≤ length l.out) × (l.count + l._left ≤ 1099511627776) × (length l.list ≡ trade_list_length)
