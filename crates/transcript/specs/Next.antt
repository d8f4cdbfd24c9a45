-- What is told next, by each of its cases; and the last lines, with the room that they ask for.
use Rattle.std.specs.Prelude.{ℕ, ◌+◌, ◌≤◌, ◌<◌, Bool, not, ◌&&◌, ◌≡◌, List, length}
use Rattle.std.proofs.Math.Bool.{true, false, cond}
use Rattle.std.proofs.Math.Path.{refl}
use Rattle.std.proofs.Common.{sym, add-one}
use borrow.Author.Tests.{lt-ltb, le-ltb}
use Rattle.records.specs.Walk.{Read, record_at}
use Rattle.records.specs.declared.{Piece.Piece}
use Rattle.records.specs.Pieces.{needs_more, piece_of, piece_at}
use Rattle.lines.specs.Line.{fault_line, end_line}
use Rattle.lists.specs.Put.{Wrote, put_then}
use Rattle.transcript.specs.declared.{Stop.Stop, Next.Next}
use Rattle.transcript.specs.Steps.{record_room}
use Rattle.transcript.specs.Told.{next_of, next_told, last_of}

-- what stands at a place of a piece, as what is told next
abbrev pub next_from : Piece → Next
next_from (Piece.Record r next) = Next.Record r next
next_from Piece.Waits = Next.Stop Stop.Waits
next_from Piece.Fault = Next.Stop Stop.Fault
next_from Piece.End = Next.Stop Stop.End

module _ (bytes : List ℕ) (place : ℕ) (ended : Bool) {room : ℕ} where
  pub next-full : room < record_room → Next.Stop Stop.Full ≡ next_told bytes place ended room
  next-full h = rw (lt-ltb _ _ h)

  pub next-piece : record_room ≤ room → {p : Piece} → p ≡ piece_at bytes place ended → next_from p ≡ next_told bytes place ended room
  unfolding piece_at
  next-piece h e = rw (e, le-ltb _ _ h) (go (not ended && needs_more bytes place) (record_at bytes place)) where
    go : (b : Bool) (read : Read) → next_from (cond b Piece.Waits (piece_of read)) ≡ cond b (Next.Stop Stop.Waits) (next_of read)
    go true read = refl
    go false (Read.Record r next) = refl
    go false Read.Fault = refl
    go false Read.End = refl

-- the fault's line and the end's
pub fault-last : (out one two : List ℕ) (at p r answered : ℕ) → at ≤ length out → Wrote out one at p (fault_line (answered + 1)) → Wrote one two p r (end_line answered)
    → Wrote out two at r (last_of answered Stop.Fault)
fault-last out one two at p r answered h first second = rw (sym (add-one answered)) (put_then out one two at p r (fault_line (answered + 1)) (end_line answered) h first second)
