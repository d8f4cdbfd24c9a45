use mathlib.Core.Path.{refl}
use Rattle.std.proofs.Common.{arith}
use Rattle.std.proofs.lemmas.Result.{err_from_is_err_and}
use Rattle.terms.proofs.Made.{order-good, order-refused}
use Rattle.refusals.specs.Numbers.{refusal-number-above}
use Rattle.effects.specs.Effects.{order-out-of-range, order-turned-down, number-left, place-left, order-done}
use Rattle.effects.proofs.order_effect.Goals as goal

pub returns-in_err-order : goal.returns-in_err-order
returns-in_err-order c =
    let a = c.args in
    let p = err_from_is_err_and c.from_residual.result c.from_residual.ensures.1 in
    rw (p.1, p.2) (order-out-of-range a.phase a.parameters a.reference a.beyond a.given a.taken.now a.e (order-refused a.e c.in_err-order.ensures))

pub returns-in_err-order_refusal : goal.returns-in_err-order_refusal
returns-in_err-order_refusal c =
    let a = c.args in
    let p = err_from_is_err_and c.from_residual-in_err-order_refusal.result c.from_residual-in_err-order_refusal.ensures.1 in
    rw (p.1, p.2) (order-turned-down a.phase a.parameters a.reference a.beyond a.given a.taken.now a.e (order-good a.e c.in_ok-order.ensures)
    c.lowest_free-place.ensures c.holds-left.ensures c.in_err-order_refusal.ensures (refusal-number-above _))

pub overflow_add-number : goal.overflow_add-number
overflow_add-number c =
    let a = c.args in
    omega (
      arith,
      number-left a.phase a.parameters a.reference a.beyond a.given a.taken.now a.e (order-good a.e c.in_ok-order.ensures)
          c.lowest_free-place.ensures c.holds-left.ensures c.in_ok-order_refusal.ensures refl,
    )

pub bounds-taken-place : goal.bounds-taken-place
bounds-taken-place c =
    let a = c.args in
    omega (
      arith,
      place-left a.phase a.parameters a.reference a.beyond a.given a.taken.now a.e (order-good a.e c.in_ok-order.ensures)
          c.lowest_free-place.ensures c.holds-left.ensures c.in_ok-order_refusal.ensures refl,
    )

pub returns : goal.returns
returns c =
    let a = c.args in
    order-done a.phase a.parameters a.reference a.beyond a.given a.taken.now a.e (order-good a.e c.in_ok-order.ensures)
    c.lowest_free-place.ensures c.holds-left.ensures c.in_ok-order_refusal.ensures refl c.with_bit-word.ensures c.values_of.ensures
