use Rattle.loads.proofs.Taken.{order-taken}
use Rattle.loads.proofs.orders.day_order.Goals as goal

pub returns : goal.returns
returns c = order-taken c.args.member c.args.side c.args.quantity c.args.limit c.requires.in_range c.requires.limit
