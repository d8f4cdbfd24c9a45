use mathlib.Core.Bool.{true, ◌&&◌}
use mathlib.Core.Path.{◌≡◌, refl}
use Rattle.std.proofs.Common.{arith}
use Rattle.std.proofs.lemmas.Result.{err_from_is_err_and}
use Rattle.terms.specs.Kinds.{is_number, is_member}
use Rattle.terms.proofs.Made.{number-good, number-refused, member-good, member-refused}
use Rattle.refusals.specs.Numbers.{refusal-number-above}
use Rattle.effects.specs.Effects.{delete-out-of-range, delete-turned-down, delete-room, delete-done}
use Rattle.effects.proofs.delete_effect.Goals as goal
use Rattle.effects.proofs.delete_effect.Goals.{In_ok-try_from-2}

-- both are numbers of their kind
good : (c : In_ok-try_from-2) → let a = c.args in is_number a.number && is_member a.member ≡ true
good c = rw (number-good c.args.number c.in_ok-try_from.ensures, member-good c.args.member c.in_ok-try_from-2.ensures)

pub returns-in_err-try_from : goal.returns-in_err-try_from
returns-in_err-try_from c =
    let a = c.args in
    let p = err_from_is_err_and c.from_residual.result c.from_residual.ensures.1 in
    rw (p.1, p.2) (delete-out-of-range a.phase a.given a.taken.now a.place a.number a.member (rw (number-refused a.number c.in_err-try_from.ensures)))

pub returns-in_err-try_from-2 : goal.returns-in_err-try_from-2
returns-in_err-try_from-2 c =
    let a = c.args in
    let p = err_from_is_err_and c.from_residual-in_err-try_from-2.result c.from_residual-in_err-try_from-2.ensures.1 in
    rw (p.1, p.2) (delete-out-of-range a.phase a.given a.taken.now a.place a.number a.member
    (rw (number-good a.number c.in_ok-try_from.ensures, member-refused a.member c.in_err-try_from-2.ensures)))

pub returns-in_err-delete_refusal : goal.returns-in_err-delete_refusal
returns-in_err-delete_refusal c =
    let a = c.args in
    let p = err_from_is_err_and c.from_residual-in_err-delete_refusal.result c.from_residual-in_err-delete_refusal.ensures.1 in
    rw (p.1, p.2) (delete-turned-down a.phase a.given a.taken.now a.place a.number a.member (good (goal.at.returns-in_err-delete_refusal c).In_ok-try_from-2)
    c.in_err-delete_refusal.ensures (refusal-number-above _))

pub bounds-taken-place : goal.bounds-taken-place
bounds-taken-place c =
    let a = c.args in
    omega (arith, delete-room a.phase a.given a.taken.now a.place a.number a.member (good (goal.at.bounds-taken-place c).In_ok-try_from-2) c.in_ok-delete_refusal.ensures refl)

pub returns : goal.returns
returns c =
    let a = c.args in
    delete-done a.phase a.given a.taken.now a.place a.number a.member (good (goal.at.returns c).In_ok-try_from-2) c.in_ok-delete_refusal.ensures refl
    c.without_bit-word.ensures c.empty.ensures
