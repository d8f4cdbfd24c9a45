use Rattle.lists.specs.Sums.{apart}
use Rattle.price.specs.Search.{weighed}
use Rattle.price.proofs.weigh.weigh.Goals as goal

pub returns-then-w-most : goal.returns-then-w-most
unfolding weighed apart
returns-then-w-most c = rw (← c.min-most.ensures, ← c.abs_diff-least.ensures, c.if-w-most.true, c.first.ensures)

pub returns-then-most-w : goal.returns-then-most-w
unfolding weighed apart
returns-then-most-w c = rw (← c.min-most.ensures, ← c.abs_diff-least.ensures, c.if-w-most.false, c.if-most-w.true, c.joined.ensures)

pub returns : goal.returns
unfolding weighed apart
returns c = rw (← c.min-most.ensures, ← c.abs_diff-least.ensures, c.if-w-most.false, c.if-most-w.false)
