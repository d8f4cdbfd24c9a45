-- What the start of a load takes: entries that no check refuses for what they say (01 "Refusals by number", 1, 5 to 8, and 13 of 02 K2).
use Rattle.std.specs.Prelude.{ℕ, Bool, not, ◌&&◌, ◌||◌}
use Rattle.terms.specs.Kinds.{is_price, is_multiple, is_threshold}
use Rattle.terms.specs.Orders.{is_entry, order_from}
use Rattle.terms.specs.Quotes.{is_quote, quote_from, is_crossed}
use Rattle.terms.specs.Tables.{one_row}
use Rattle.terms.specs.declared.kinds.{CollarFactor.CollarFactor, OrderValue.OrderValue, Price.Price}
use Rattle.terms.specs.declared.orders.{Entry.Entry, Order.Order}
use Rattle.terms.specs.declared.quote_terms.{QuoteEntry.QuoteEntry}
use Rattle.controls.specs.Controls.{off_step, reaches_collar, reaches_most, reaches_most_at_reference}
use Rattle.refusals.specs.Rows.{either_side}

-- the numbers of the start
abbrev pub step : ℕ
step = 100

abbrev pub factor : CollarFactor
factor = record { 0 = 9 }

abbrev pub most : OrderValue
most = record { 0 = 1_000_000_000_000 }

abbrev pub reference : Price
reference = record { 0 = 100_000 }

-- a reference price, on the step, and a threshold
abbrev pub can_ask : ℕ → ℕ → Bool
can_ask price threshold = is_price price && is_multiple step price && is_threshold threshold

-- controls 5 to 8
abbrev pub is_stopped : Order → Bool
is_stopped o =
    off_step (one_row step) o.limit
    || reaches_collar reference factor o.limit
    || reaches_most most o.quantity o.limit
    || reaches_most_at_reference most o.quantity reference

abbrev pub takes_order : Entry → Bool
takes_order e = is_entry e && not (is_stopped (order_from e))

abbrev pub takes_quote : QuoteEntry → Bool
takes_quote e = is_quote e && not (is_crossed (quote_from e)) && not (either_side is_stopped (quote_from e))
