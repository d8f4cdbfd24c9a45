-- The outcome from what the search found: the highest executable quantity, the price, and the unlimited quantities of both sides.
use Rattle.std.specs.Prelude.{ℕ, cond, ◌&&◌, eqb}
use Rattle.price.specs.declared.search.{Found.Found}
use Rattle.auction.specs.declared.{Outcome.Outcome, Outcome.TheVariants.Traded, Outcome.TheVariants.NoTrade, Outcome.TheVariants.NonOpening, Outcome.TheVariants.Delayed}
use Rattle.auction.specs.declared.Held.{Held}
use Rattle.auction.specs.Outcome.{exceeds, delays}

unfoldable pub outcome_from : Held → ℕ → ℕ → Found → ℕ → ℕ → Outcome
outcome_from held threshold reference found buys sells =
    cond (held.preventable && exceeds found.most buys sells) NonOpening
    (cond (eqb found.most 0) NoTrade
    (cond (delays held threshold reference found.price) (Delayed found.price found.most) (Traded found.price found.most)))
