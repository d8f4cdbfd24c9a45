use mathlib.Core.Bool.{Bool, true, false}
use mathlib.Core.Path.{◌≡◌, refl, sym}
use lib.Seq.{length-take-le}
use native.Mathlib.Omega.{arith}
use Rattle.std.specs.Prelude.{Ok, Err}
use Rattle.std.proofs.lemmas.Result.{err_from_is_err_and}
use Rattle.terms.proofs.Made.{side-good, side-refused}
use Rattle.refusals.specs.declared.refusal.Refusal.{Refusal}
use Rattle.refusals.specs.Numbers.{refused_when}
use Rattle.fills.proofs.FrontLaws.{front-longest}
use Rattle.standings.specs.Queues.{list_of}
use Rattle.standings.specs.QueueCalls.{front-turned-down, front-found}
use Rattle.standings.proofs.front_of.Goals as goal
use Rattle.standings.proofs.front_of.Goals.{in-Buy, in-Sell}

-- a rule that refuses hits, and one that lets the call go on doesn't
refused : (hit : Bool) {r by : Refusal} → Err r ≡ refused_when hit by → (hit ≡ true) × (r ≡ by)
refused true e = (refl, cc)
refused false e = absurd cc

passed : (hit : Bool) (by : Refusal) → Ok tt ≡ refused_when hit by → hit ≡ false
passed true by e = absurd cc
passed false by e = refl

pub returns-in_err-side : goal.returns-in_err-side
returns-in_err-side c =
    let a = c.args in
    let p = err_from_is_err_and c.from_residual.result c.from_residual.ensures.1 in
    rw (p.1, p.2) (front-turned-down a.buys.now a.sells.now a.side a.total (rw (side-refused a.side c.in_err-side.ensures)))

pub returns-in_err-when : goal.returns-in_err-when
returns-in_err-when c =
    let a = c.args in
    let p = err_from_is_err_and c.from_residual-in_err-when.result c.from_residual-in_err-when.ensures.1 in
    let h = refused _ c.in_err-when.ensures in
    rw (p.1, p.2, h.1) (front-turned-down a.buys.now a.sells.now a.side a.total (rw ((side-good a.side c.in_ok-side.ensures).0, h.0)))

pub slice_bounds-result-end : goal.slice_bounds-result-end
slice_bounds-result-end c =
    sym (length-take-le _ _ (omega (arith, c.front_length.ensures, (front-longest c.args.total c.match-side.list.now).most)))

pub returns : goal.returns
returns c =
    let a = c.args in
    let picked : c.match-side.list.now ≡ list_of c.in_ok-side.side a.buys.now a.sells.now = elim c.match-side.branch [
      | in-Buy w ↦ rw (w.list-is, w.in-Buy.is)
      | in-Sell w ↦ rw (w.list-is, w.in-Sell.is)
    ] in
    rw picked
    (front-found a.buys.now a.sells.now a.side a.total (side-good a.side c.in_ok-side.ensures) (passed _ _ c.in_ok-when.ensures) (rw picked at c.front_length.ensures))
