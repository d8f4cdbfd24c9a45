use Prim.Native.Nat.{◌+◌, ◌≤◌}
use mathlib.Core.Path.{refl}
use Rattle.std.proofs.Common.{arith}
use Rattle.std.proofs.lemmas.Result.{err_from_is_err_and}
use Rattle.terms.specs.Bounds.{max_number}
use Rattle.terms.proofs.Made.{quote-good, quote-refused}
use Rattle.refusals.specs.Numbers.{refusal-number-above}
use Rattle.effects.specs.QuoteEffects.{quote-out-of-range, quote-turned-down, numbers-left, quote-done}
use Rattle.effects.proofs.quoting.quote_effect.Goals as goal
use Rattle.effects.proofs.quoting.quote_effect.Goals.{In_ok-quote_refusal}

pub returns-in_err-quote : goal.returns-in_err-quote
returns-in_err-quote c =
    let a = c.args in
    let p = err_from_is_err_and c.from_residual.result c.from_residual.ensures.1 in
    rw (p.1, p.2) (quote-out-of-range a.phase a.parameters a.reference a.beyond a.given a.taken.now a.old a.e (quote-refused a.e c.in_err-quote.ensures))

pub returns-in_err-quote_refusal : goal.returns-in_err-quote_refusal
returns-in_err-quote_refusal c =
    let a = c.args in
    let p = err_from_is_err_and c.from_residual-in_err-quote_refusal.result c.from_residual-in_err-quote_refusal.ensures.1 in
    rw (p.1, p.2) (quote-turned-down a.phase a.parameters a.reference a.beyond a.given a.taken.now a.old a.e (quote-good a.e c.in_ok-quote.ensures)
    c.fresh_pair-fresh.ensures c.holds-left.ensures c.in_err-quote_refusal.ensures (refusal-number-above _))

-- once nothing hits
left : (c : In_ok-quote_refusal) → let a = c.args in a.given + 2 ≤ max_number
left c =
    let a = c.args in
    numbers-left a.phase a.parameters a.reference a.beyond a.given a.taken.now a.old a.e (quote-good a.e c.in_ok-quote.ensures)
    c.fresh_pair-fresh.ensures c.holds-left.ensures c.in_ok-quote_refusal.ensures refl

pub overflow_add-given : goal.overflow_add-given
overflow_add-given c = omega (arith, left (goal.at.overflow_add-given c).In_ok-quote_refusal)

pub overflow_add-given-2 : goal.overflow_add-given-2
overflow_add-given-2 c = omega (arith, left (goal.at.overflow_add-given-2 c).In_ok-quote_refusal)

pub returns : goal.returns
returns c =
    let a = c.args in
    quote-done a.phase a.parameters a.reference a.beyond a.given a.taken.now a.old a.e (quote-good a.e c.in_ok-quote.ensures)
    c.fresh_pair-fresh.ensures c.holds-left.ensures c.in_ok-quote_refusal.ensures refl (rw c.order_on.ensures at c.values_of-bid.ensures)
    (rw c.order_on-2.ensures at c.values_of-ask.ensures)
