-- Rank: 01 "Who takes part, and at what rank", last sentence (004 clause 6).
use Rattle.std.specs.Prelude.{ℕ, Bool, true, false, not, ◌&&◌, ◌||◌, List, ltb}
use Rattle.lists.specs.Choice.{keep}
use Rattle.lists.specs.Ranking.{rank}
use Rattle.terms.specs.Orders.{Resting}
use Rattle.terms.specs.declared.orders.{Side.Side, Side.TheVariants.Buy, Side.TheVariants.Sell, Limit.Limit, Limit.TheVariants.Unlimited, Limit.TheVariants.At}
use Rattle.terms.specs.Sides.{same_side}

-- the better price: higher buys, lower sells
abbrev pub better_price : Side → ℕ → ℕ → Bool
better_price Buy p q = ltb q p
better_price Sell p q = ltb p q

-- unlimited first, then the better price
abbrev pub better_limit : Side → Limit → Limit → Bool
better_limit s Unlimited Unlimited = false
better_limit s Unlimited (At q) = true
better_limit s (At p) Unlimited = false
better_limit s (At p) (At q) = better_price s p.0 q.0

-- .. then, where neither limit is better, the lower number
abbrev pub earlier : Side → Resting → Resting → Bool
earlier s a b = not (better_limit s b.limit a.limit) && ltb a.number b.number

abbrev pub ahead : Side → Resting → Resting → Bool
ahead s a b = better_limit s a.limit b.limit || earlier s a b

abbrev pub on_side : Side → Resting → Bool
on_side s o = same_side s o.side

-- the ranked queue of a side, best first
unfoldable pub ranked : Side → List Resting → List Resting
ranked s book = rank (ahead s) (keep (on_side s) book)
