use borrow.Author.Rules.{rules}
use Rattle.places.specs.Words.{unmark-here}
use Rattle.places.proofs.words.unmark.Goals as goal

pub returns-then-place-lt-COUNT : goal.returns-then-place-lt-COUNT
returns-then-place-lt-COUNT c = search (rules, unmark-here)
