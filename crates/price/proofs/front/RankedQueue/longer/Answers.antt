use mathlib.Core.Path.{◌∙◌}
use native.Mathlib.Omega.{arith}
use Rattle.price.specs.Below.{front_fits, front-longer}
use Rattle.price.proofs.front.RankedQueue.longer.Goals as goal

pub overflow_add-total : goal.overflow_add-total
overflow_add-total c = let l = c.loop-count in
    omega (arith, c.from-total.ensures, c.left_at.type_inv, front_fits _ _ l.count l.total l.invariant, c.args.self.few)

pub loop-count-preserved : goal.loop-count-preserved
loop-count-preserved c = let l = c.loop-count in
    front-longer _ _ l.count l.total l.invariant _ c.loop-count-test.true (c.from-total.ensures ∙ c.left_at.ensures) (omega (arith, c.from-total.ensures, c.left_at.type_inv))
