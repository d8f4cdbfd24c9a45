use Rattle.price.specs.Below.{front-none}
use Rattle.price.proofs.front.RankedQueue.offer.Goals as goal

pub front_at-front-requires : goal.front_at-front-requires
front_at-front-requires c = front-none _ _
