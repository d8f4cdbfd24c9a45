-- Interest: 01 "The price", demand, supply and the executable quantity at a price. `book` is the list of orders taking part.
use Rattle.std.specs.Prelude.{ℕ, min, Bool, ◌&&◌, List}
use Rattle.lists.specs.Sums.{apart, counted, sum}
use Rattle.terms.specs.Orders.{Resting}
use Rattle.terms.specs.declared.orders.{Side.Side, Side.TheVariants.Buy, Side.TheVariants.Sell}
use Rattle.queue.specs.Sides.{allows}
use Rattle.queue.specs.Rank.{on_side}

-- the order is of side s and can trade at p
abbrev pub accepts : Side → ℕ → Resting → Bool
accepts s p o = on_side s o && allows s p o.limit

-- the open quantity of side s that can trade at p: demand of the buys, supply of the sells
unfoldable pub interest : Side → ℕ → List Resting → ℕ
interest s p book = sum (λ o. counted (accepts s p o) o.left) book

abbrev pub demand : List Resting → ℕ → ℕ
demand book p = interest Buy p book

abbrev pub supply : List Resting → ℕ → ℕ
supply book p = interest Sell p book

-- executable is the smaller
abbrev pub executable : List Resting → ℕ → ℕ
executable book p = min (demand book p) (supply book p)

-- the difference between demand and supply
abbrev pub difference : List Resting → ℕ → ℕ
difference book p = apart (demand book p) (supply book p)
