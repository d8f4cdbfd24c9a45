-- The loop's invariant: the column is settled at the places before the one reached.
use Rattle.std.proofs.Common.{◌≡◌}
use Rattle.book.specs.Settling.{left_to}
use Rattle.book.proofs.settling.settle_left.Given as goal

abbrev pub invariant-loop-place : goal.invariant-loop-place
invariant-loop-place l = l.lefts ≡ left_to l.rests l.initial.lefts l.place
