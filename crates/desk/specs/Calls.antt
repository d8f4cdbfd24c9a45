-- The calls of a desk: what each returns and leaves, refusals included. The session inside is what the plain call makes of it.
use Rattle.std.specs.Prelude.{ℕ, ◌+◌, List, set}
use Rattle.terms.specs.declared.orders.{Entry.Entry}
use Rattle.terms.specs.declared.parameters.{Start.Start}
use Rattle.terms.specs.declared.quote_terms.{QuoteEntry.QuoteEntry}
use Rattle.places.specs.Places.{lowest_free, is_full, is_short}
use Rattle.refusals.specs.Checks.{Check, answered}
use Rattle.refusals.specs.Rows.{order_rows, quote_rows}
use Rattle.entries.specs.declared.{Started.Started, Entered.Entered, Deleted.Deleted}
use Rattle.entries.specs.Entry as plain
use Rattle.quotation.specs.declared.{Quoted.Quoted}
use Rattle.quotation.specs.Quote as quotation
use Rattle.desk.specs.declared.{Desk.Desk}
use Rattle.desk.specs.Desk.{row_in, is_beyond, with_session, entering}

-- Start: 1, 3.
abbrev pub started : Desk → Start → Started Desk
started d x = record { answer = (plain.started d.session x).answer; session = with_session d (plain.started d.session x).session }

-- Order: 1, 2, 4, 5, 6, 7, 8, 16, 9, 10; 16 for a thirty-third member.
abbrev pub order_checks : Desk → Entry → List Check
order_checks d e =
    let s = d.session in
    order_rows s.phase s.parameters (plain.control_reference s) (is_beyond d e.member) s.given (is_full s.book.taken) e

abbrev pub order_refused : Desk → ℕ → Entered Desk
order_refused d n = record { answer = n; number = 0; session = d }

abbrev pub order_done : Desk → Entry → Entered Desk
order_done d e = record {
  answer = 0;
  number = d.session.given + 1;
  session = entering d e.member (plain.entered_session d.session e) (set d.rows (lowest_free d.session.book.taken) (row_in d e.member));
}

unfoldable pub entered : Desk → Entry → Entered Desk
entered d e = answered (order_checks d e) (order_refused d) (order_done d e)

-- Quote: 1, 13, 2, 4, 5, 6, 7, 8, 16, 9, 10.
abbrev pub quote_checks : Desk → QuoteEntry → List Check
quote_checks d e =
    let s = d.session in
    quote_rows s.phase s.parameters (plain.control_reference s) (is_beyond d e.member) s.given (is_short (quotation.book_without s e).taken) e

abbrev pub quote_refused : Desk → ℕ → Quoted Desk
quote_refused d n = record { answer = n; bid = 0; ask = 0; session = d }

abbrev pub quote_done : Desk → QuoteEntry → Quoted Desk
quote_done d e = record {
  answer = 0;
  bid = d.session.given + 1;
  ask = d.session.given + 2;
  session = entering d e.member (quotation.quoted_session d.session e)
      (set (set d.rows (quotation.bid_place d.session e) (row_in d e.member)) (quotation.ask_place d.session e) (row_in d e.member));
}

unfoldable pub quoted : Desk → QuoteEntry → Quoted Desk
quoted d e = answered (quote_checks d e) (quote_refused d) (quote_done d e)

-- Delete: 1, 2, 11.
abbrev pub deleted : Desk → ℕ → ℕ → Deleted Desk
deleted d number member = record { answer = (plain.deleted d.session number member).answer; session = with_session d (plain.deleted d.session number member).session }
