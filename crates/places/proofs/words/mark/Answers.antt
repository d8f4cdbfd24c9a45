use borrow.Author.Rules.{rules}
use Rattle.places.specs.Words.{mark-here}
use Rattle.places.proofs.words.mark.Goals as goal

pub returns-then-place-lt-COUNT : goal.returns-then-place-lt-COUNT
returns-then-place-lt-COUNT c = search (rules, mark-here)
