-- The telling: the records of the bytes at hand answered one by one, as far as they are whole and there is room for their lines.
use Rattle.std.specs.Prelude.{ℕ, zero, suc, ◌-◌, Bool, true, false, cond, not, ◌&&◌, List, [], ◌++◌, ltb, length, take}
use Rattle.session.specs.declared.{Session.Session}
use Rattle.records.specs.declared.{kinds.Record.Record}
use Rattle.records.specs.Walk.{Read, record_at}
use Rattle.records.specs.Pieces.{needs_more}
use Rattle.lines.specs.Lengths.{line_room}
use Rattle.lists.specs.Put.{put}
use Rattle.transcript.specs.declared.{Stop.Stop, Next.Next, Telling.Telling}
use Rattle.transcript.specs.Transcript.{step, step_lines, last_lines}
use Rattle.transcript.specs.Steps.{record_room}

abbrev pub next_of : Read → Next
next_of (Read.Record r next) = Next.Record r next
next_of Read.Fault = Next.Stop Stop.Fault
next_of Read.End = Next.Stop Stop.End

-- what is told next: nothing where there is no room for any record's lines, or where more bytes are to come and what stands there can't be told
-- without them
abbrev pub next_told : List ℕ → ℕ → Bool → ℕ → Next
next_told bytes place ended room =
    cond (ltb room record_room) (Next.Stop Stop.Full)
    (cond (not ended && needs_more bytes place) (Next.Stop Stop.Waits)
    (next_of (record_at bytes place)))

-- where a telling stands: the session, the records answered, the place in the bytes, and the text so far
pub record Standing : Type 0 where
  pub session : Session
  pub answered : ℕ
  pub place : ℕ
  pub text : List ℕ

-- .. behind a record
abbrev pub behind : Standing → Record → ℕ → Standing
behind t r next = record {
  session = (step t.session r).session;
  answered = suc t.answered;
  place = next;
  text = t.text ++ step_lines (suc t.answered) (step t.session r);
}

-- where it stopped, and why
pub record Halt : Type 0 where
  pub standing : Standing
  pub stop : Stop

abbrev pub halt : Standing → Stop → Halt
halt t why = record { standing = t; stop = why }

abbrev pub go_tell : Next → Standing → (Standing → Halt) → Halt
go_tell (Next.Stop why) t later = halt t why
go_tell (Next.Record r next) t later = later (behind t r next)

-- at most n records
unfoldable pub tell_from : ℕ → ℕ → Bool → List ℕ → Standing → Halt
tell_from zero room ended bytes t = halt t Stop.Full
tell_from (suc n) room ended bytes t = go_tell (next_told bytes t.place ended (room - length t.text)) t (tell_from n room ended bytes)

-- from the front of the bytes on; they have fewer records than bytes
abbrev pub records_told : ℕ → Bool → List ℕ → Session → ℕ → Halt
records_told room ended bytes s answered = tell_from (suc (length bytes)) room ended bytes (record { session = s; answered = answered; place = 0; text = [] })

-- the last lines, where the walk ended
abbrev pub last_of : ℕ → Stop → List ℕ
last_of answered Stop.Full = []
last_of answered Stop.Waits = []
last_of answered Stop.Fault = last_lines answered true
last_of answered Stop.End = last_lines answered false

-- .. the room that they ask for, and the record more that they count
abbrev pub last_room : Stop → ℕ
last_room Stop.Full = 0
last_room Stop.Waits = 0
last_room Stop.Fault = line_room
last_room Stop.End = line_room

abbrev pub faults : Stop → ℕ
faults Stop.Full = 0
faults Stop.Waits = 0
faults Stop.Fault = 1
faults Stop.End = 0

abbrev pub text_of : Halt → List ℕ
text_of h = h.standing.text ++ last_of h.standing.answered h.stop

-- what the call returns, and the lent buffer as it leaves it
pub record TellingLeaves : Type 0 where
  pub returned : Telling
  pub out : List ℕ

abbrev pub telling_leaves : Telling → List ℕ → TellingLeaves
telling_leaves returned out = record { returned = returned; out = out }

abbrev pub leaves_of : Halt → List ℕ → TellingLeaves
leaves_of h out = record {
  returned = record {
    session = h.standing.session;
    answered = h.standing.answered;
    place = h.standing.place;
    at = length (text_of h);
    stop = h.stop;
  };
  out = put out 0 (text_of h);
}

unfoldable pub told : Session → ℕ → List ℕ → Bool → List ℕ → TellingLeaves
told s answered bytes ended out = leaves_of (records_told (length out) ended bytes s answered) out

-- what a telling returned, with the text read back from the buffer
abbrev pub halt_of : Telling → List ℕ → Halt
halt_of r out = record {
  standing = record { session = r.session; answered = r.answered; place = r.place; text = take r.at out };
  stop = r.stop;
}
