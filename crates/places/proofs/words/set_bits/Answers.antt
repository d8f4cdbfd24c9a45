use borrow.Author.Rules.{rules}
use lib.Count.{ones-le}
use Rattle.places.specs.Words.{ones-total}
use Rattle.places.proofs.words.set_bits.Goals as goal

pub returns : goal.returns
returns c = (ones-total 64 _ (search rules), ones-le 64 _ (search rules))
