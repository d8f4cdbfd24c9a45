use Rattle.quotes.specs.Quotes.{requoted}
use Rattle.quotes.proofs.sides.requote_column.Goals as goal

pub returns : goal.returns
unfolding requoted
returns g c = cc
