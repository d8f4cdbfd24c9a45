use Rattle.lists.specs.Sums.{apart}
use Rattle.price.specs.Below.{front-none}
use Rattle.price.proofs.Weighing.{searched-from}
use Rattle.price.proofs.search.searched.Goals as goal

pub front_at-demand-requires : goal.front_at-demand-requires
front_at-demand-requires c = front-none _ _

pub front_at-supply-requires : goal.front_at-supply-requires
front_at-supply-requires c = front-none _ _

pub returns : goal.returns
unfolding apart
returns c = searched-from _ _ _ _ _ c.chosen.ensures c.weigh_limits-all.ensures c.weigh_limits-bid.ensures c.first-alone.ensures c.min-most.ensures c.abs_diff.ensures c.front_at-demand.ensures.1 c.front_at-supply.ensures.1
