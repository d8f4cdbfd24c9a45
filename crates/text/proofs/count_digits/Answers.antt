use Rattle.text.specs.Decimal.{counted_step, counted-end}
use Rattle.text.proofs.count_digits.Goals as goal

pub loop-rest-preserved : goal.loop-rest-preserved
loop-rest-preserved c = counted_step _ _ _ c.loop-rest.invariant c.loop-rest-test.true

pub returns : goal.returns
returns c = counted-end _ _ _ c.loop-rest.invariant c.loop-rest-test.false
