use lib.ListN.{get_or}
use Rattle.price.specs.Below.{front-none}
use Rattle.price.proofs.Weighing.{to_start, to-passed, to-weighed, to_end}
use Rattle.price.proofs.search.weigh_limits.Goals as goal
use Rattle.price.proofs.search.weigh_limits.Goals.{then-limit-last, else-limit-last}

pub loop-rank-init : goal.loop-rank-init
loop-rank-init c = (to_start _ _ _ _ _ _, front-none _ _, front-none _ _)

pub loop-rank-preserved : goal.loop-rank-preserved
loop-rank-preserved c = let l = c.loop-rank in
    let limit = get_or c.args.queue.book.now.limit c.place_of_rank.result 0 in
    elim c.if-limit-last.branch [
      | then-limit-last w ↦ rw (w.w-is, w.last-is, w.demand-is, w.supply-is) (
        rw w.weigh-w.ensures (to-weighed _ _ _ _ _ _ l.rank-index l.last l.w l.invariant.0 limit c.loop-rank-test.true (rw c.place_of_rank.ensures.0) w.if-limit-last.true _ _ w.front_at-demand.ensures.1 w.front_at-supply.ensures.1),
        w.front_at-demand.ensures.0,
        w.front_at-supply.ensures.0,
      )
      | else-limit-last w ↦ rw (w.w-is, w.last-is, w.demand-is, w.supply-is) (
        to-passed _ _ _ _ _ _ l.rank-index l.last l.w l.invariant.0 limit c.loop-rank-test.true (rw c.place_of_rank.ensures.0) w.if-limit-last.false,
        l.invariant.1,
        l.invariant.2,
      )
    ]

pub returns : goal.returns
returns c = let l = c.loop-rank in to_end _ _ _ _ _ _ l.rank-index l.last l.w l.invariant.0 c.loop-rank-test.false
