-- The outcome: 01 "Outcomes", in its order. `book` is the list of orders taking part.
use Rattle.std.specs.Prelude.{ℕ, ◌*◌, Bool, ◌&&◌, ◌||◌, List, [], leb, ltb, length}
use Rattle.std.proofs.Math.Bool.{true, false, cond}
use Rattle.std.proofs.Math.Option.{Option, none, some}
use Rattle.lists.specs.Sums.{apart}
use Rattle.terms.specs.Bounds.{hundredths_of_percent}
use Rattle.terms.specs.Orders.{Resting}
use Rattle.terms.specs.declared.orders.{Side.Side, Side.TheVariants.Buy, Side.TheVariants.Sell}
use Rattle.queue.specs.Sides.{is_unlimited}
use Rattle.price.specs.Interest.{executable}
use Rattle.price.specs.Candidates.{most_executable}
use Rattle.price.specs.Chain.{auction_price}
use Rattle.trades.specs.declared.{Trade.Trade}
use Rattle.auction.specs.declared.{Outcome.Outcome, Outcome.TheVariants.Traded, Outcome.TheVariants.NoTrade, Outcome.TheVariants.NonOpening, Outcome.TheVariants.Delayed}
use Rattle.trades.specs.TradesOf.{left_of, trades_of}
use Rattle.auction.specs.declared.Held.{Held}

-- the unlimited quantity taking part on a side
abbrev pub unlimited : Side → List Resting → ℕ
unlimited s book = left_of s (λ o. is_unlimited o.limit) book

-- of what may hold an auction back, nothing
abbrev pub unheld : Held
unheld = record { preventable = false; delayable = false }

-- Non Opening: the unlimited quantity taking part on either side exceeds the highest executable quantity
abbrev pub exceeds : ℕ → ℕ → ℕ → Bool
exceeds most buys sells = ltb most buys || ltb most sells

unfoldable pub non_opening : ℕ → List Resting → Bool
non_opening reference book = exceeds (most_executable reference book) (unlimited Buy book) (unlimited Sell book)

-- .. which prevents an auction that may be prevented
abbrev pub prevented : Held → ℕ → List Resting → Bool
prevented held reference book = held.preventable && non_opening reference book

-- |price − reference| × 10,000 ≥ threshold × reference
abbrev pub reaches : ℕ → ℕ → ℕ → Bool
reaches threshold reference price = leb (threshold * reference) (apart price reference * hundredths_of_percent)

-- Delayed Opening: the auction may be delayed, and the price reaches the threshold
abbrev pub delays : Held → ℕ → ℕ → ℕ → Bool
delays held threshold reference price = held.delayable && reaches threshold reference price

-- with a price the auction trades, unless it is delayed; without one there is no trade
abbrev pub priced : Held → ℕ → ℕ → List Resting → Option ℕ → Outcome
priced held threshold reference book none = NoTrade
priced held threshold reference book (some p) =
    cond (delays held threshold reference p) (Delayed p (executable book p)) (Traded p (executable book p))

-- Non Opening first, then Delayed Opening, then outcome 1 with trades or 2 without
unfoldable pub outcome : Held → ℕ → ℕ → List Resting → Outcome
outcome held threshold reference book =
    cond (prevented held reference book) NonOpening (priced held threshold reference book (auction_price reference book))

-- the trades: only where the auction trades
abbrev pub trades : Outcome → List Resting → List Trade
trades (Traded price quantity) book = trades_of quantity book
trades NoTrade book = []
trades NonOpening book = []
trades (Delayed price quantity) book = []

-- the answer's four numbers: outcome, price, quantity, count of trades
abbrev pub outcome_number : Outcome → ℕ
outcome_number (Traded price quantity) = 1
outcome_number NoTrade = 2
outcome_number NonOpening = 3
outcome_number (Delayed price quantity) = 4

abbrev pub price_answered : Outcome → ℕ
price_answered (Traded price quantity) = price
price_answered NoTrade = 0
price_answered NonOpening = 0
price_answered (Delayed price quantity) = price

abbrev pub quantity_answered : Outcome → ℕ
quantity_answered (Traded price quantity) = quantity
quantity_answered NoTrade = 0
quantity_answered NonOpening = 0
quantity_answered (Delayed price quantity) = quantity

abbrev pub count_answered : Outcome → List Resting → ℕ
count_answered o book = length (trades o book)

-- an auction takes place where nothing holds it back: outcome 1 or 2
abbrev pub takes_place : Outcome → Bool
takes_place (Traded price quantity) = true
takes_place NoTrade = true
takes_place NonOpening = false
takes_place (Delayed price quantity) = false
