use mathlib.Core.Path.{◌∙◌}
use Rattle.auction.specs.Trading.{outcome_in}
use Rattle.auction.proofs.TradingLaws.{ranks-few, ranks-ascend, asks-part}
use Rattle.auction.proofs.trading.outlook.Goals as goal

pub invariant_of-buys : goal.invariant_of-buys
invariant_of-buys c = let ranked = c.both_ranked-bids.ensures in
    record { in_order = rw ranked.1 (ranks-ascend _ _ _ _ _ _); few = rw ranked.1 (ranks-few _ _ _ _ _ _) }

pub invariant_of-sells : goal.invariant_of-sells
invariant_of-sells c = let r = c.both_ranked-bids in
    let asks = asks-part r.result.bids r.result.asks r.new.ranks ∙ r.ensures.2 in
    record { in_order = rw asks (ranks-ascend _ _ _ _ _ _); few = rw asks (ranks-few _ _ _ _ _ _) }

pub returns : goal.returns
unfolding outcome_in
returns c = let r = c.both_ranked-bids in
    let asks = asks-part r.result.bids r.result.asks r.new.ranks ∙ r.ensures.2 in
    (c.outcome_of-outcome.ensures ∙ rw (c.searched-found.ensures, c.offer-unlimited_buys.ensures, c.offer-unlimited_sells.ensures, r.ensures.1, asks), r.ensures.0, r.ensures.1, r.ensures.2)
