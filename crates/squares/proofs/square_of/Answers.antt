use Rattle.std.proofs.Common.{arith}
use Rattle.squares.specs.Square.{rows_none, row_written}
use Rattle.squares.proofs.square_of.Goals as goal

pub loop-row-init : goal.loop-row-init
loop-row-init c = rw (rows_none c.args.totals.now)

pub loop-row-preserved : goal.loop-row-preserved
loop-row-preserved c = rw (c.row_at.ensures, c.loop-row.invariant) (row_written c.args.totals.now c.loop-row.row _ (omega arith))
