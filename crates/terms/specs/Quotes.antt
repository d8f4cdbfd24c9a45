-- Quotes: 02 K2. A limited buy and a limited sell in one instruction.
use Rattle.std.specs.Prelude.{Bool, cond, ◌&&◌, leb, Result, Ok, Err}
use Rattle.terms.specs.Kinds.{is_price, is_quantity, is_member, out_of_range}
use Rattle.terms.specs.declared.kinds.{OutOfRange.OutOfRange}
use Rattle.terms.specs.declared.orders.Side.{Side}
use Rattle.terms.specs.declared.orders.Side.TheVariants.{Buy, Sell}
use Rattle.terms.specs.declared.orders.Validity.TheVariants.{Day}
use Rattle.terms.specs.declared.orders.Limit.TheVariants.{At}
use Rattle.terms.specs.declared.orders.{Order.Order}
use Rattle.terms.specs.declared.quote_terms.{SideEntry.SideEntry, QuoteEntry.QuoteEntry, QuoteSide.QuoteSide, Quote.Quote}

-- a side: a quantity, and a limit that is a price; 0 is none
abbrev pub is_quote_side : SideEntry → Bool
is_quote_side e = is_quantity e.quantity && is_price e.limit

abbrev pub quote_side_from : SideEntry → QuoteSide
quote_side_from e = record { quantity = record { 0 = e.quantity }; limit = record { 0 = e.limit } }

unfoldable pub quote_side_of : SideEntry → Result QuoteSide OutOfRange
quote_side_of e = cond (is_quote_side e) (Ok (quote_side_from e)) (Err out_of_range)

-- every field of the entry is in its range
abbrev pub is_quote : QuoteEntry → Bool
is_quote e = is_member e.member && is_quote_side e.bid && is_quote_side e.ask

-- the quote that an entry's numbers say
abbrev pub quote_from : QuoteEntry → Quote
quote_from e = record { member = record { 0 = e.member }; bid = quote_side_from e.bid; ask = quote_side_from e.ask }

unfoldable pub quote_of : QuoteEntry → Result Quote OutOfRange
quote_of e = cond (is_quote e) (Ok (quote_from e)) (Err out_of_range)

-- the order that a side is: the bid a limited buy, the ask a limited sell, of validity day
abbrev pub quote_order : Quote → Side → Order
quote_order q Buy = record { member = q.member; side = Buy; validity = Day; quantity = q.bid.quantity; limit = At q.bid.limit }
quote_order q Sell = record { member = q.member; side = Sell; validity = Day; quantity = q.ask.quantity; limit = At q.ask.limit }

-- 13: the bid limit is not below the ask limit
abbrev pub is_crossed : Quote → Bool
is_crossed q = leb q.ask.limit.0 q.bid.limit.0
