-- The trades: 01 "Outcomes", "both sides are filled in rank order up to the executable quantity. The trades pair the two queues from the front".
use Rattle.std.specs.Prelude.{ℕ, Bool, ◌&&◌, List}
use Rattle.lists.specs.Sums.{counted, sum}
use Rattle.terms.specs.Orders.{Resting}
use Rattle.terms.specs.declared.orders.{Side.Side, Side.TheVariants.Buy, Side.TheVariants.Sell}
use Rattle.queue.specs.Rank.{on_side, ranked}
use Rattle.fills.specs.Fill.{Fill, fill}
use Rattle.trades.specs.declared.Trade.{Trade}
use Rattle.trades.specs.Pairing.{paired}

-- what the orders of a side get of a quantity
unfoldable pub fills : Side → ℕ → List Resting → List Fill
fills s quantity book = fill quantity (ranked s book)

unfoldable pub trades_of : ℕ → List Resting → List Trade
trades_of quantity book = paired (fills Buy quantity book) (fills Sell quantity book)

-- what the orders of side s that pass the test have open
abbrev pub left_of : Side → (Resting → Bool) → List Resting → ℕ
left_of s f book = sum (λ o. counted (on_side s o && f o) o.left) book
