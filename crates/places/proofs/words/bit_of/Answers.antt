use Rattle.places.specs.Words.{bit-shift}
use Rattle.places.proofs.words.bit_of.Goals as goal

pub returns : goal.returns
returns c = bit-shift _ _
