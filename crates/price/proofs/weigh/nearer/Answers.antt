use borrow.Author.Rules.{rules}
use Rattle.lists.specs.Sums.{apart}
use Rattle.price.proofs.weigh.nearer.Goals as goal

pub returns-then-abs_diff : goal.returns-then-abs_diff
unfolding apart
returns-then-abs_diff c = search rules

pub returns-else-abs_diff : goal.returns-else-abs_diff
unfolding apart
returns-else-abs_diff c = search rules
