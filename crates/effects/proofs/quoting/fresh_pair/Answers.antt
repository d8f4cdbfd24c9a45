use borrow.Author.Rules.{rules}
use Rattle.effects.specs.QuoteEffects.{fresh-made}
use Rattle.effects.proofs.quoting.fresh_pair.Goals as goal

pub returns : goal.returns
returns c = fresh-made _ _ c.unmark.ensures c.unmark-2.ensures c.lowest_free-bid.ensures c.mark.ensures c.lowest_free-ask.ensures
