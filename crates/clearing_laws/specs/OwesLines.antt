-- Who owes whom, in lines: what is printed behind the session's own is worked out from the list of all trades so far (02 K5).
use Rattle.std.specs.Prelude.{ℕ, List}
use Rattle.terms.specs.Parameters.{start_with}
use Rattle.text.specs.Text.{texts}
use Rattle.records.specs.declared.{kinds.Record.Record}
use Rattle.transcript.specs.Transcript.{lent}
use Rattle.owing.specs.Owing.{owes_line}
use Rattle.demands.specs.Sequences.{Act, Call}
use Rattle.clearing_laws.specs.Runs.{Deal, owed}

-- K5a's words: the lines of members, worked out from a list of trades: for each what it bought of each, where that is not 0
abbrev pub bought_by : List ℕ → List Deal → ℕ → List ℕ
bought_by ms deals buyer = texts (λ seller. owes_line buyer seller (owed buyer seller deals)) ms

abbrev pub owed_among : List ℕ → List Deal → List ℕ
owed_among ms deals = texts (bought_by ms deals) ms

-- the call that a record asks for, with the list that the program lends
abbrev pub call_of : Record → Call
call_of (Record.Start p) = Call.act (Act.start (start_with p))
call_of (Record.Order e) = Call.act (Act.order e)
call_of (Record.Delete x) = Call.act (Act.delete x.number x.member)
call_of (Record.Auction which) = Call.act (Act.auction which lent)
call_of (Record.Quote e) = Call.act (Act.quote e)
call_of (Record.Bands p) = Call.act (Act.start p)
