-- The loop's invariant: the column is settled at the places before the one reached.
use Rattle.std.proofs.Common.{◌≡◌}
use Rattle.book.specs.Settling.{column_to}
use Rattle.book.proofs.settling.settle_column.Given as goal

abbrev pub invariant-loop-place : goal.invariant-loop-place
invariant-loop-place g l = l.column ≡ column_to g.T.Stored.empty l.rests l.initial.column l.place
