use mathlib.Core.Path.{◌≡◌, refl, sym, ◌∙◌}
use native.Mathlib.Omega.{arith}
use lib.ListN.{length}
use lib.Seq.{length-take-le}
use Rattle.auction.specs.Outcome.{trades}
use Rattle.session.specs.State.{part}
use Rattle.auction.proofs.TradingLaws.{ranks-few, asks-part}
use Rattle.answers.specs.Auctions.{outcome_of}
use Rattle.answers.proofs.AuctionCalls.{outcome-by-ranks, foretold, trades-counted}
use Rattle.std.proofs.Common.{⊎_elim}
use Rattle.foresight.proofs.foreseen_now.Goals as goal
use Rattle.foresight.proofs.foreseen_now.Goals.{After-outlook-view, in-Traded, in-NoTrade}

-- the outcome is the one that the session has now
outcome-is : (c : After-outlook-view) → let a = c.args in c.outlook-view.result.outcome ≡ outcome_of a.session.now a.auction
outcome-is c = let a = c.args in
    outcome-by-ranks a.session.now c.requires a.auction _ _ refl refl c.held.result.preventable c.held.result.delayable c.held.ensures.0 c.held.ensures.1
    c.outlook-view.result.outcome (rw (c.number.ensures, c.number-2.ensures) at c.outlook-view.ensures.0)

pub slice_bounds-count_trades-end : goal.slice_bounds-count_trades-end
slice_bounds-count_trades-end c = let v = c.outlook-view in
    sym (length-take-le v.result.bids v.new.ranks (omega (arith, v.auto.ranks, v.ensures.1)))

pub count_trades-count-requires : goal.count_trades-count-requires
count_trades-count-requires c = let v = c.outlook-view in
    (rw v.ensures.2 (ranks-few _ _ _ _ _ _), rw (asks-part v.result.bids v.result.asks v.new.ranks ∙ v.ensures.3) (ranks-few _ _ _ _ _ _))

pub returns : goal.returns
returns c = let a = c.args in
    let v = c.outlook-view in
    let o = v.result.outcome in
    let counted : c.match-view.count ≡ length (trades o (part a.session.now a.auction)) = elim c.match-view.branch [
      | in-Traded w ↦ rw (w.count-is, w.in-Traded.is) (trades-counted a.session.now c.requires a.auction _ _ v.ensures.2 v.ensures.3 w.in-Traded.quantity w.count_trades-count.result
          (rw (asks-part v.result.bids v.result.asks v.new.ranks) at w.count_trades-count.ensures))
      | in-NoTrade w ↦ w.count-is ∙ ⊎_elim (λ e. rw e) (⊎_elim (λ e. rw e) (λ (p, q, e). rw e)) w.in-NoTrade.is
    ] in
    foretold a.session.now c.requires a.auction o (outcome-is (goal.at.returns c).After-outlook-view) c.answer_with.result c.match-view.count counted c.answer_with.ensures
