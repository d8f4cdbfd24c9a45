use mathlib.Core.Bool.{true}
use mathlib.Core.Path.{◌≡◌, refl}
use Rattle.std.proofs.lemmas.Result.{err_from_is_err_and}
use Rattle.terms.proofs.Made.{auction-good, auction-refused}
use Rattle.terms.specs.Orders.{is_auction, auction_from}
use Rattle.refusals.specs.Numbers.{refusal-number-above}
use Rattle.foresight.specs.TheoreticalCall.{theoretical-out-of-range, theoretical-turned-down, theoretical-foreseen}
use Rattle.foresight.proofs.foretold.Goals as goal
use Rattle.foresight.proofs.foretold.Goals.{In_ok-auction}

good : (c : In_ok-auction) → (is_auction c.args.which ≡ true) × (c.in_ok-auction.auction ≡ auction_from c.args.which)
good c = auction-good c.args.which c.in_ok-auction.ensures

pub returns-in_err-auction : goal.returns-in_err-auction
returns-in_err-auction c =
    let a = c.args in
    let p = err_from_is_err_and c.from_residual.result c.from_residual.ensures.1 in
    rw (p.1, p.2) (theoretical-out-of-range a.session.now a.which (auction-refused a.which c.in_err-auction.ensures))

pub returns-in_err-theoretical_refusal : goal.returns-in_err-theoretical_refusal
returns-in_err-theoretical_refusal c =
    let a = c.args in
    let p = err_from_is_err_and c.from_residual-in_err-theoretical_refusal.result c.from_residual-in_err-theoretical_refusal.ensures.1 in
    rw (p.1, p.2) (theoretical-turned-down a.session.now a.which (good (goal.at.returns-in_err-theoretical_refusal c).In_ok-auction) c.in_err-theoretical_refusal.ensures (refusal-number-above _))

pub returns : goal.returns
returns c =
    let a = c.args in
    theoretical-foreseen a.session.now a.which (good (goal.at.returns c).In_ok-auction) c.in_ok-theoretical_refusal.ensures refl c.foreseen_now.ensures
