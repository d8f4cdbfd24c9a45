-- Each case is what the piece says.
use mathlib.Core.Path.{◌≡◌, sym, ◌∙◌}
use Rattle.records.specs.declared.{Piece.Piece}
use Rattle.transcript.specs.Told.{next_told}
use Rattle.transcript.specs.Next.{next_from, next-piece}
use Rattle.transcript.proofs.tell.next_told.Goals as goal
use Rattle.transcript.proofs.tell.next_told.Goals.{After-read_at-piece}

-- with room, what is next is what the piece says
from-piece : (c : After-read_at-piece) {p : Piece} → c.read_at-piece.result ≡ p → let a = c.args in next_from p ≡ next_told a.bytes.now a.place a.ended a.room
from-piece c e = let a = c.args in next-piece a.bytes.now a.place a.ended c.if-room-lt-RECORD_ROOM.false (sym e ∙ c.read_at-piece.ensures)

pub returns-in-Record : goal.returns-in-Record
returns-in-Record c = from-piece (goal.at.returns-in-Record c).After-read_at-piece c.in-Record.is

pub returns-in-Waits : goal.returns-in-Waits
returns-in-Waits c = from-piece (goal.at.returns-in-Waits c).After-read_at-piece c.in-Waits.is

pub returns-in-Fault : goal.returns-in-Fault
returns-in-Fault c = from-piece (goal.at.returns-in-Fault c).After-read_at-piece c.in-Fault.is

pub returns-in-End : goal.returns-in-End
returns-in-End c = from-piece (goal.at.returns-in-End c).After-read_at-piece c.in-End.is
