-- What a record does in a session that keeps the square (02 K5), by the desk's own calls: the desk after it, and what is told of it as of a plain session's.
use Rattle.std.specs.Prelude.{ℕ, suc, Bool, ◌≡◌, List, [], ◌∷◌, ◌++◌}
use Rattle.lists.specs.Put.{Wrote}
use Rattle.terms.specs.Parameters.{start_with}
use Rattle.trades.specs.declared.{Trade.Trade}
use Rattle.records.specs.declared.{kinds.Record.Record}
use Rattle.lines.specs.declared.{words.Word.Word, Line.Line}
use Rattle.transcript.specs.Transcript.{Step, lent, start_step, order_step, delete_step, quote_step, auction_step, trades_answered, step_lines, last_lines}
use Rattle.entries.specs.declared.{Started.Started, Entered.Entered, Deleted.Deleted}
use Rattle.quotation.specs.declared.{Quoted.Quoted}
use Rattle.answers.specs.declared.{Auctioned.Auctioned}
use Rattle.desk.specs.declared.{Desk.Desk}
use Rattle.desk.specs.Desk.{fresh_desk}
use Rattle.desk.specs.Calls.{started, entered, deleted, quoted}
use Rattle.desk_auction.specs.Auctions.{auctioned}
use Rattle.transcript.specs.declared.{Stepped.Stepped}

-- the desk after a record, and what is told of it: the session inside, what its line says, and its trades
pub record DeskStep : Type 0 where
  pub desk : Desk
  pub told : Step

abbrev pub start_told : Started Desk → DeskStep
start_told r = record { desk = r.session; told = start_step (record { answer = r.answer; session = r.session.session }) }

abbrev pub order_told : Entered Desk → DeskStep
order_told r = record { desk = r.session; told = order_step (record { answer = r.answer; number = r.number; session = r.session.session }) }

abbrev pub delete_told : Deleted Desk → DeskStep
delete_told r = record { desk = r.session; told = delete_step (record { answer = r.answer; session = r.session.session }) }

abbrev pub quote_told : Quoted Desk → DeskStep
quote_told r = record { desk = r.session; told = quote_step (record { answer = r.answer; bid = r.bid; ask = r.ask; session = r.session.session }) }

abbrev pub auction_told : Auctioned Desk → List Trade → DeskStep
auction_told r trades = record { desk = r.session; told = auction_step (record { answer = r.answer; result = r.result; session = r.session.session }) trades }

abbrev pub desk_step : Desk → Record → DeskStep
desk_step d (Record.Start p) = start_told (started d (start_with p))
desk_step d (Record.Order e) = order_told (entered d e)
desk_step d (Record.Delete x) = delete_told (deleted d x.number x.member)
desk_step d (Record.Auction which) = auction_told (auctioned d which lent).returned (trades_answered d.session which)
desk_step d (Record.Quote e) = quote_told (quoted d e)
desk_step d (Record.Bands p) = start_told (started d p)

-- the desk after records, one after the other
abbrev pub desk_after : Desk → List Record → Desk
desk_after d [] = d
desk_after d (r ∷ rs) = desk_after (desk_step d r).desk rs

-- a desk that records lead to from a fresh one
pub record Reached (d : Desk) : Type 0 where
  pub records : List Record
  pub leads : desk_after fresh_desk records ≡ d

-- the lines of records, one after the other, and the last ones
unfoldable pub desk_lines_from : Desk → ℕ → List Record → Bool → List ℕ
desk_lines_from d count [] faulty = last_lines count faulty
desk_lines_from d count (r ∷ rs) faulty =
    let done = desk_step d r in
    step_lines (suc count) done.told ++ desk_lines_from done.desk (suc count) rs faulty

-- a line with two numbers behind its answer
abbrev pub two_numbers : Word → ℕ → ℕ → ℕ → Line
two_numbers word answer first second = record { word = word; answer = answer; numbers = first ∷ second ∷ 0 ∷ 0 ∷ [] }

-- the desk after a step, and the lines of the record at its place from 1 written into the buffer
abbrev pub WroteDesk : ℕ → List ℕ → List ℕ → ℕ → Stepped Desk → DeskStep → Type 0
WroteDesk place old new at r done = (r.session ≡ done.desk) × Wrote old new at r.at (step_lines place done.told)
