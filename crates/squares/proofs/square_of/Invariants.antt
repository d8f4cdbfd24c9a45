-- Invariant: the first rows are those of the cells.
use Rattle.std.proofs.Common.{◌≡◌, ◌++◌, drop}
use Rattle.squares.specs.Square.{rows_to}
use Rattle.squares.proofs.square_of.Given as goal

abbrev pub invariant-loop-row : goal.invariant-loop-row
invariant-loop-row l = l.cells-items ≡ rows_to l.row l.totals ++ drop l.row l.initial.cells-items
