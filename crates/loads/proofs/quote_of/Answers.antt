use Rattle.loads.proofs.Taken.{quote-taken}
use Rattle.loads.proofs.quote_of.Goals as goal

pub returns : goal.returns
returns c = quote-taken c.args.member c.args.quantity c.requires.0 c.requires.1 c.requires.2
