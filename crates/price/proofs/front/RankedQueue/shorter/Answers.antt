use mathlib.Core.Path.{◌∙◌}
use native.Mathlib.Omega.{arith}
use Rattle.price.specs.Below.{front-has, front-shorter, front_below}
use Rattle.price.proofs.front.RankedQueue.shorter.Goals as goal

pub returns-then-rank-bound : goal.returns-then-rank-bound
returns-then-rank-bound c = let l = c.loop-count in
    (l.invariant.0, front_below _ _ l.count l.total l.invariant.0 c.args.bound c.args.self.in_order (λ h. c.if-rank-bound.true) l.invariant.1)

pub overflow_sub-total : goal.overflow_sub-total
overflow_sub-total c = let l = c.loop-count in
    omega (arith, front-has _ _ l.count l.total l.invariant.0 _ (omega (arith, c.loop-count-test.true)) (c.from-total.ensures ∙ c.left_at.ensures))

pub loop-count-preserved : goal.loop-count-preserved
loop-count-preserved c = let l = c.loop-count in
    (front-shorter _ _ l.count l.total l.invariant.0 _ (omega (arith, c.loop-count-test.true)) (c.from-total.ensures ∙ c.left_at.ensures), λ h. c.if-rank-bound.false)

pub returns : goal.returns
returns c = let l = c.loop-count in
    (l.invariant.0, front_below _ _ l.count l.total l.invariant.0 c.args.bound c.args.self.in_order (λ h. absurd (omega (arith, c.loop-count-test.false))) l.invariant.1)
