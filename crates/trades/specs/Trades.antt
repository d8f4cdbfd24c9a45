-- Trade lists at a price, and why none moves more than is executable there.
use Prim.Native.Nat.{ℕ, ◌≤◌}
use Rattle.std.specs.Prelude.{Bool, ◌≡◌, List, T}
use Rattle.std.proofs.Math.Dec.{eqb}
use Rattle.lists.specs.Sums.{◌∈◌, counted, sum}
use Rattle.terms.specs.Orders.{Resting}
use Rattle.terms.specs.declared.orders.{Side.Side, Side.TheVariants.Buy, Side.TheVariants.Sell}
use Rattle.price.specs.Interest.{accepts}
use Rattle.trades.specs.declared.Trade.{Trade}

-- the number of the order on side s of the trade
abbrev pub party : Side → Trade → ℕ
party Buy t = t.buy
party Sell t = t.sell

-- what the orders whose numbers pass the test trade on side s in all, and what the order with the number n does
abbrev pub traded_by : (ℕ → Bool) → Side → List Trade → ℕ
traded_by f s trades = sum (λ t. counted (f (party s t)) t.quantity) trades

unfoldable pub traded : Side → ℕ → List Trade → ℕ
traded s n trades = traded_by (λ m. eqb m n) s trades

abbrev pub volume : List Trade → ℕ
volume trades = sum (λ t. t.quantity) trades

-- A trade list at the price p: each trade names a buy and a sell that take part and accept p, with a quantity;
-- over the whole list no order is named for more than its open quantity.
pub record TradeList (p : ℕ) (book : List Resting) (trades : List Trade) : Type 0 where
  pub parties : (s : Side) (t : Trade) → t ∈ trades → (o : Resting) × (o ∈ book) × T (accepts s p o) × (party s t ≡ o.number)
  pub fits : (o : Resting) → o ∈ book → traded o.side o.number trades ≤ o.left
