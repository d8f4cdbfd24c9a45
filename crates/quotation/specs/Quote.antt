-- Quote (02 K2): what the call returns and leaves, refusals included.
use Rattle.std.specs.Prelude.{ℕ, ◌+◌, true, false, List}
use Rattle.terms.specs.Orders.{Resting, resting_as}
use Rattle.terms.specs.Quotes.{quote_from, quote_order}
use Rattle.terms.specs.declared.orders.{Side.TheVariants.Buy, Side.TheVariants.Sell}
use Rattle.terms.specs.declared.quote_terms.{QuoteEntry.QuoteEntry}
use Rattle.places.specs.Places.{lowest_free, is_short}
use Rattle.book.specs.declared.{Book.Book}
use Rattle.book.specs.Columns.{stored}
use Rattle.quotes.specs.Quotes.{without_quote}
use Rattle.refusals.specs.Checks.{Check, answered}
use Rattle.refusals.specs.Rows.{quote_rows}
use Rattle.session.specs.declared.{Session.Session}
use Rattle.session.specs.State.{with_book}
use Rattle.quotation.specs.declared.{Quoted.Quoted}
use Rattle.entries.specs.Entry.{control_reference}

-- a new quote first removes what is left of the member's old one
abbrev pub book_without : Session → QuoteEntry → Book
book_without s e = without_quote e.member s.book

-- 1, 13, 2, 4, 5, 6, 7, 8, 9, 10, the room so freed counts; 16 is no refusal of a session without the square (02 K5)
abbrev pub quote_checks : Session → QuoteEntry → List Check
quote_checks s e = quote_rows s.phase s.parameters (control_reference s) false s.given (is_short (book_without s e).taken) e

-- the bid takes the first of two new numbers and places, the ask the second; each is marked as a side of a quote
abbrev pub bid_entered : Session → QuoteEntry → Resting
bid_entered s e = resting_as (s.given + 1) true (quote_order (quote_from e) Buy)

abbrev pub ask_entered : Session → QuoteEntry → Resting
ask_entered s e = resting_as (s.given + 2) true (quote_order (quote_from e) Sell)

abbrev pub bid_place : Session → QuoteEntry → ℕ
bid_place s e = lowest_free (book_without s e).taken

abbrev pub book_with_bid : Session → QuoteEntry → Book
book_with_bid s e = stored (book_without s e) (bid_place s e) (bid_entered s e)

abbrev pub ask_place : Session → QuoteEntry → ℕ
ask_place s e = lowest_free (book_with_bid s e).taken

abbrev pub book_with_quote : Session → QuoteEntry → Book
book_with_quote s e = stored (book_with_bid s e) (ask_place s e) (ask_entered s e)

abbrev pub quoted_session : Session → QuoteEntry → Session
quoted_session s e = with_book s (s.given + 2) (book_with_quote s e)

abbrev pub quote_refused : Session → ℕ → Quoted Session
quote_refused s n = record { answer = n; bid = 0; ask = 0; session = s }

abbrev pub quote_done : Session → QuoteEntry → Quoted Session
quote_done s e = record { answer = 0; bid = s.given + 1; ask = s.given + 2; session = quoted_session s e }

unfoldable pub quoted : Session → QuoteEntry → Quoted Session
quoted s e = answered (quote_checks s e) (quote_refused s) (quote_done s e)
