use Rattle.places.specs.Words.{shl_one, or-with}
use Rattle.places.proofs.words.with_bit.Goals as goal

pub returns : goal.returns
returns c = rw (shl_one c.args.k c.requires) (or-with c.args.k c.args.word)
