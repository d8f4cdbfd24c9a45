use Rattle.quotes.specs.Quotes.{requoted_words}
use Rattle.quotes.proofs.sides.requote_words.Goals as goal

pub returns : goal.returns
unfolding requoted_words
returns c = cc
