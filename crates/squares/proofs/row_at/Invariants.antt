-- Invariant: the first cells are those of the row.
use Rattle.std.proofs.Common.{◌≡◌, ◌++◌, take, drop}
use Rattle.squares.specs.Square.{row_at}
use Rattle.squares.proofs.row_at.Given as goal

abbrev pub invariant-loop-column : goal.invariant-loop-column
invariant-loop-column l = l.cell-items ≡ take l.column (row_at l.totals l.row) ++ drop l.column l.initial.cell-items
