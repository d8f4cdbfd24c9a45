-- The transcript: 01 "Session file", what the session program prints, as one function of the file's bytes.
use Rattle.std.specs.Prelude.{ℕ, suc, Bool, true, false, List, [], ◌∷◌, ◌++◌, replicate}
use Rattle.terms.specs.Bounds.{trade_list_length}
use Rattle.terms.specs.Orders.{auction_from}
use Rattle.terms.specs.Parameters.{start_with}
use Rattle.trades.specs.declared.{Trade.Trade}
use Rattle.session.specs.declared.{Session.Session}
use Rattle.entries.specs.declared.{Started.Started, Entered.Entered, Deleted.Deleted}
use Rattle.quotation.specs.declared.{Quoted.Quoted}
use Rattle.courses.specs.declared.{AuctionAnswer.AuctionAnswer}
use Rattle.answers.specs.declared.{Auctioned.Auctioned}
use Rattle.session.specs.State.{fresh_session}
use Rattle.entries.specs.Entry.{started, entered, deleted}
use Rattle.quotation.specs.Quote.{quoted}
use Rattle.answers.specs.Auctions.{auction_checks, auctioned, trades_now}
use Rattle.refusals.specs.Checks.{answered}
use Rattle.records.specs.declared.{kinds.Record.Record}
use Rattle.records.specs.Walk.{walk}
use Rattle.lines.specs.declared.{words.Word.Word, Line.Line}
use Rattle.lines.specs.Line.{numbered_line, line_of, trade_lines, fault_line, end_line}

-- what a record does: the session after it, what its line says, and its trades
pub record Step : Type 0 where
  pub session : Session
  pub line : Line
  pub trades : List Trade

-- the list that the program lends to every auction
abbrev pub lent : List ℕ
lent = replicate trade_list_length 0

abbrev pub start_step : Started Session → Step
start_step r = record { session = r.session; line = numbered_line Word.Start r.answer 0; trades = [] }

abbrev pub order_step : Entered Session → Step
order_step r = record { session = r.session; line = numbered_line Word.Order r.answer r.number; trades = [] }

abbrev pub delete_step : Deleted Session → Step
delete_step r = record { session = r.session; line = numbered_line Word.Delete r.answer 0; trades = [] }

abbrev pub quote_step : Quoted Session → Step
quote_step r = record { session = r.session; line = record { word = Word.Quote; answer = r.answer; numbers = r.bid ∷ r.ask ∷ 0 ∷ 0 ∷ [] }; trades = [] }

-- the trades of an auction that was not refused
abbrev pub trades_answered : Session → ℕ → List Trade
trades_answered s which = answered (auction_checks s which trade_list_length) (λ n. []) (trades_now s (auction_from which))

-- the four numbers of an auction's line
abbrev pub auction_line : ℕ → AuctionAnswer → Line
auction_line answer result =
    record { word = Word.Auction; answer = answer; numbers = result.outcome ∷ result.price ∷ result.quantity ∷ result.count ∷ [] }

abbrev pub auction_step : Auctioned Session → List Trade → Step
auction_step r trades = record { session = r.session; line = auction_line r.answer r.result; trades = trades }

abbrev pub step : Session → Record → Step
step s (Record.Start p) = start_step (started s (start_with p))
step s (Record.Order e) = order_step (entered s e)
step s (Record.Delete d) = delete_step (deleted s d.number d.member)
step s (Record.Auction which) = auction_step (auctioned s which lent).returned (trades_answered s which)
step s (Record.Quote e) = quote_step (quoted s e)
step s (Record.Bands p) = start_step (started s p)

-- the lines of a record, at its place from 1
abbrev pub step_lines : ℕ → Step → List ℕ
step_lines place r = line_of place r.line ++ trade_lines r.trades

-- the fault, if one ended the walk, and the count of records answered
abbrev pub last_lines : ℕ → Bool → List ℕ
last_lines count true = fault_line (suc count) ++ end_line count
last_lines count false = end_line count

unfoldable pub lines_from : Session → ℕ → List Record → Bool → List ℕ
lines_from s count [] faulty = last_lines count faulty
lines_from s count (r ∷ rs) faulty =
    let done = step s r in
    step_lines (suc count) done ++ lines_from done.session (suc count) rs faulty

-- what is printed for a file
abbrev pub printed : List ℕ → List ℕ
printed bytes = lines_from fresh_session 0 (walk bytes).records (walk bytes).faulty
