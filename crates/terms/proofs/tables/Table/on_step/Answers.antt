use Rattle.terms.specs.Tables.{on_step}
use Rattle.terms.proofs.tables.Table.on_step.Goals as goal

pub returns : goal.returns
unfolding on_step
returns c = rw (c.divides.ensures, c.row_of-row.ensures)
