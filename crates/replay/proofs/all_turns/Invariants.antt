-- Invariant: the chain of the turns so far, from which the run goes on, and what the turns left can count fits in 64 bits.
use Rattle.std.proofs.Common.{◌+◌, ◌*◌, ◌≤◌, ◌^◌, ◌≡◌, length}
use Rattle.records.specs.Lengths.{length_bound}
use Rattle.replay.specs.Turns.{Going}
use Rattle.replay.specs.WholeRun.{Underway}
use Rattle.replay.proofs.all_turns.Given as goal

abbrev pub invariant-loop-left : goal.invariant-loop-left
invariant-loop-left g l =
    Going length_bound l.run × (l.run.answered + l._left * length_bound ≤ 2 ^ 57) × (length l.input ≡ length_bound) × (length l.output ≡ length l.initial.output) × Underway l._left l.initial.input l.initial.output l.run l.input l.output
