use Rattle.std.proofs.Common.{arith}
use Rattle.terms.proofs.TableLaws.{none_left, table-holds}
use Rattle.terms.proofs.tables.Table.holds.Goals as goal

pub returns : goal.returns
returns c = table-holds c.args.self (omega arith) (none_left _ _ _ c.args.self.rows (omega arith) c.loop-i.invariant)
