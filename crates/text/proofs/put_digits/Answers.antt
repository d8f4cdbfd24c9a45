use Prim.Native.Nat.{◌-◌}
use Rattle.text.specs.Decimal.{decimal-length, shown-start, shown-step}
use native.Mathlib.Omega.{arith}
use Rattle.text.proofs.put_digits.Goals as goal

pub loop-i-init : goal.loop-i-init
loop-i-init c = shown-start c.args.x c.args.at c.count_digits-n.result c.args.out.now c.requires c.count_digits-n.ensures

pub overflow_add-out-in-loop-i : goal.overflow_add-out-in-loop-i
overflow_add-out-in-loop-i c = let a = c.args in
    let good = c.well_formed in
    omega (arith, c.loop-i.invariant.0, decimal-length a.x, c.requires, good)

pub bounds-out-at : goal.bounds-out-at
bounds-out-at c = let a = c.args in
    omega (arith, c.loop-i.invariant.0, c.loop-i.invariant.1, decimal-length a.x, c.requires)

pub loop-i-preserved : goal.loop-i-preserved
loop-i-preserved c = shown-step c.args.x c.args.at c.loop-i.i (c.loop-i.i - 1) c.loop-i.rest c.args.out.now c.loop-i.out c.requires
    (omega (arith, c.loop-i-test.true)) c.loop-i.invariant

pub overflow_add-result : goal.overflow_add-result
overflow_add-result c = let a = c.args in
    let good = c.well_formed in
    omega (arith, decimal-length a.x, c.requires, c.count_digits-n.ensures, good)
