use Rattle.loads.proofs.Taken.{start-in-range}
use Rattle.loads.proofs.start_at.Goals as goal

pub returns-clause-in_range : goal.returns-clause-in_range
returns-clause-in_range c = rw c.as_start.ensures (start-in-range c.args.reference c.args.threshold c.requires)
