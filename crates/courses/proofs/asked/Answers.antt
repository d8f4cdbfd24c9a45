use mathlib.Core.Bool.{true}
use mathlib.Core.Path.{◌≡◌, refl}
use Rattle.std.proofs.lemmas.Result.{err_from_is_err_and}
use Rattle.terms.proofs.Made.{auction-good, auction-refused}
use Rattle.terms.specs.Orders.{is_auction, auction_from}
use Rattle.refusals.specs.Numbers.{refusal-number-above}
use Rattle.courses.specs.Course.{asked-out-of-range, asked-turned-down, asked-good}
use Rattle.courses.proofs.asked.Goals as goal
use Rattle.courses.proofs.asked.Goals.{In_ok-auction}

good : (c : In_ok-auction) → (is_auction c.args.which ≡ true) × (c.in_ok-auction.auction ≡ auction_from c.args.which)
good c = auction-good c.args.which c.in_ok-auction.ensures

pub returns-in_err-auction : goal.returns-in_err-auction
returns-in_err-auction c =
    let a = c.args in
    let p = err_from_is_err_and c.from_residual.result c.from_residual.ensures.1 in
    rw (p.1, p.2) (asked-out-of-range a.which a.phase a.size (auction-refused a.which c.in_err-auction.ensures))

pub returns-in_err-auction_refusal : goal.returns-in_err-auction_refusal
returns-in_err-auction_refusal c =
    let a = c.args in
    let p = err_from_is_err_and c.from_residual-in_err-auction_refusal.result c.from_residual-in_err-auction_refusal.ensures.1 in
    rw (p.1, p.2) (asked-turned-down a.which a.phase a.size (good (goal.at.returns-in_err-auction_refusal c).In_ok-auction) c.in_err-auction_refusal.ensures (refusal-number-above _))

pub returns : goal.returns
returns c =
    let a = c.args in
    asked-good a.which a.phase a.size (good (goal.at.returns c).In_ok-auction) c.in_ok-auction_refusal.ensures refl
