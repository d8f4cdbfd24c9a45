-- The loop's invariant: what the limits to come make of w is what all of them make of the start; demand and supply are fronts.
use lib.ListN.{get_or}
use Rattle.queue.specs.RankNumbers.{place_of_rank}
use Rattle.price.specs.Search.{offered}
use Rattle.price.specs.Below.{IsFront}
use Rattle.price.proofs.Weighing.{WeighedTo}
use Rattle.price.proofs.search.weigh_limits.Given as goal

abbrev pub invariant-loop-rank : goal.invariant-loop-rank
invariant-loop-rank l = WeighedTo l.reference (offered l.buys.side l.buys.book.now.left l.buys.ranks.now) (offered l.sells.side l.sells.book.now.left l.sells.ranks.now) (λ x. get_or l.queue.book.now.limit (place_of_rank x) 0) l.queue.ranks.now l.initial.w l.rank-index l.last l.w
    × IsFront l.buys.book.now.left l.buys.ranks.now l.demand.count l.demand.total × IsFront l.sells.book.now.left l.sells.ranks.now l.supply.count l.supply.total
