use borrow.Author.Rules.{rules}
use Rattle.auction.specs.Ended.{ended_to}
use Rattle.auction.proofs.Ended.{ended-next}
use Rattle.auction.proofs.after.end_rests.Goals as goal

pub loop-place-init : goal.loop-place-init
unfolding ended_to
loop-place-init c = search rules

pub loop-place-preserved : goal.loop-place-preserved
loop-place-preserved c = let a = c.args in
    ended-next a.auction a.validities.now a.lefts.now _ c.loop-place.lefts c.loop-place.invariant _ c.rest_with.ensures
