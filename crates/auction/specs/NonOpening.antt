-- Non Opening: exactly when no trade list at any price, or at any legal price, fills every unlimited order taking part.
use Rattle.std.specs.Prelude.{ℕ, Bool, ◌≡◌, List, T}
use Rattle.lists.specs.Sums.{◌∈◌}
use Rattle.terms.specs.Orders.{Resting}
use Rattle.queue.specs.Sides.{is_unlimited}
use Rattle.trades.specs.declared.{Trade.Trade}
use Rattle.trades.specs.Trades.{traded, TradeList}

-- each unlimited order trades all that it has open
abbrev pub AllFilled : List Resting → List Trade → Type 0
AllFilled book trades = (o : Resting) → o ∈ book → T (is_unlimited o.limit) → traded o.side o.number trades ≡ o.left

-- some trade list at some price fills every unlimited order ..
abbrev pub Fillable : List Resting → Type 0
Fillable book = (p : ℕ) × (trades : List Trade) × TradeList p book trades × AllFilled book trades

-- .. and at some legal price
abbrev pub FillableAt : (ℕ → Bool) → List Resting → Type 0
FillableAt legal book = (p : ℕ) × T (legal p) × (trades : List Trade) × TradeList p book trades × AllFilled book trades
