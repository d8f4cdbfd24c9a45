-- A session's state: the fresh one, and each way in which a call changes it. Nothing else makes a session.
use Rattle.std.specs.Prelude.{ℕ, true, false, List}
use Rattle.terms.specs.Orders.{Resting}
use Rattle.terms.specs.Parameters.{least_parameters}
use Rattle.terms.specs.declared.kinds.{Price.Price}
use Rattle.terms.specs.declared.orders.{Auction.Auction}
use Rattle.terms.specs.declared.parameters.{Parameters.Parameters}
use Rattle.book.specs.declared.Book.{Book}
use Rattle.book.specs.Columns.{empty_book}
use Rattle.book.specs.Resting.{resting}
use Rattle.queue.specs.Part.{taking_part}
use Rattle.controls.specs.declared.phases.{Phase.Phase, Phase.TheVariants.Fresh, Phase.TheVariants.PreOpening}
use Rattle.session.specs.declared.{Session.Session}

-- a session that has not started: the least parameters, no number given, the book empty
abbrev pub fresh_session : Session
fresh_session = record { phase = Fresh; delayed = false; parameters = least_parameters; reference = least_parameters.reference; given = 0; book = empty_book }

-- start leads to pre-opening, with its reference price in force
abbrev pub begun : Session → Parameters → Session
begun s p = record { phase = PreOpening; delayed = s.delayed; parameters = p; reference = p.reference; given = s.given; book = s.book }

-- entries and deletions change the last number given and the book
abbrev pub with_book : Session → ℕ → Book → Session
with_book s given book = record { phase = s.phase; delayed = s.delayed; parameters = s.parameters; reference = s.reference; given = given; book = book }

-- an auction that takes place changes the phase, the reference price in force and the book
abbrev pub passed_on : Session → Phase → Price → Book → Session
passed_on s phase reference book = record { phase = phase; delayed = s.delayed; parameters = s.parameters; reference = reference; given = s.given; book = book }

-- outcome 4: only the mark that the delay is spent changes
abbrev pub delay_given : Session → Session
delay_given s = record { phase = s.phase; delayed = true; parameters = s.parameters; reference = s.reference; given = s.given; book = s.book }

-- the orders taking part in an auction
abbrev pub part : Session → Auction → List Resting
part s a = taking_part a (resting s.book)
