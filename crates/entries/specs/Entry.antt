-- Start, order and delete: what each call returns and leaves, refusals included.
use Rattle.std.specs.Prelude.{ℕ, ◌+◌, false, not, List}
use Rattle.lists.specs.Choice.{any}
use Rattle.terms.specs.Orders.{Resting, order_from, resting_as}
use Rattle.terms.specs.Parameters.{parameters_from}
use Rattle.terms.specs.declared.kinds.{Price.Price}
use Rattle.terms.specs.declared.orders.{Entry.Entry}
use Rattle.terms.specs.declared.parameters.{Start.Start}
use Rattle.places.specs.Places.{lowest_free, is_full}
use Rattle.book.specs.Columns.{stored, cleared}
use Rattle.book.specs.Resting.{resting, place_of, is_of}
use Rattle.refusals.specs.Checks.{Check, answered}
use Rattle.refusals.specs.Rows.{start_rows, order_rows, delete_rows}
use Rattle.session.specs.declared.{Session.Session}
use Rattle.entries.specs.declared.{Started.Started, Entered.Entered, Deleted.Deleted}
use Rattle.session.specs.State.{begun, with_book}

-- Start: 1, 3.
abbrev pub start_checks : Session → Start → List Check
start_checks s x = start_rows s.phase x

abbrev pub start_refused : Session → ℕ → Started Session
start_refused s n = record { answer = n; session = s }

abbrev pub start_done : Session → Start → Started Session
start_done s x = record { answer = 0; session = begun s (parameters_from x) }

unfoldable pub started : Session → Start → Started Session
started s x = answered (start_checks s x) (start_refused s) (start_done s x)

-- the reference price that controls 6 and 8 use: the start record's, for the whole session (02 K4; 004 clause 10, paragraph 3)
abbrev pub control_reference : Session → Price
control_reference s = s.parameters.reference

-- Order: 1, 2, 4, 5, 6, 7, 8, 9, 10; 16 is no refusal of a session without the square (02 K5).
abbrev pub order_checks : Session → Entry → List Check
order_checks s e = order_rows s.phase s.parameters (control_reference s) false s.given (is_full s.book.taken) e

-- an accepted order takes the next number and the lowest free place
abbrev pub order_entered : Session → Entry → Resting
order_entered s e = resting_as (s.given + 1) false (order_from e)

abbrev pub entered_session : Session → Entry → Session
entered_session s e = with_book s (s.given + 1) (stored s.book (lowest_free s.book.taken) (order_entered s e))

abbrev pub order_refused : Session → ℕ → Entered Session
order_refused s n = record { answer = n; number = 0; session = s }

abbrev pub order_done : Session → Entry → Entered Session
order_done s e = record { answer = 0; number = s.given + 1; session = entered_session s e }

unfoldable pub entered : Session → Entry → Entered Session
entered s e = answered (order_checks s e) (order_refused s) (order_done s e)

-- Delete: 1, 2, 11.
abbrev pub delete_checks : Session → ℕ → ℕ → List Check
delete_checks s number member = delete_rows s.phase number member (not (any (is_of number member) (resting s.book)))

-- a place freed by a deletion is free at once
abbrev pub deleted_session : Session → ℕ → ℕ → Session
deleted_session s number member = with_book s s.given (cleared s.book (place_of (is_of number member) s.book))

abbrev pub delete_refused : Session → ℕ → Deleted Session
delete_refused s n = record { answer = n; session = s }

abbrev pub delete_done : Session → ℕ → ℕ → Deleted Session
delete_done s number member = record { answer = 0; session = deleted_session s number member }

unfoldable pub deleted : Session → ℕ → ℕ → Deleted Session
deleted s number member = answered (delete_checks s number member) (delete_refused s) (delete_done s number member)
