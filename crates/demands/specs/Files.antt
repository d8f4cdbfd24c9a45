-- What is printed of a file (A7): one function of its bytes, however it comes in. And that each promise of the file's layers is determined (A2).
use Rattle.std.specs.Prelude.{ℕ, ◌+◌, ◌≤◌, ◌<◌, Bool, true, ◌≢◌, ◌≡◌, length, take}
use Rattle.std.proofs.Common.{sym, ap, ◌∙◌, arith}
use mathlib.Core.List.{List, [], flatten}
use Rattle.session.specs.declared.{Session.Session}
use Rattle.session.specs.State.{fresh_session}
use Rattle.records.specs.declared.{Piece.Piece}
use Rattle.records.specs.Pieces.{piece_at}
use Rattle.lists.specs.Put.{Wrote}
use Rattle.transcript.specs.declared.{Stop.Stop}
use Rattle.transcript.specs.Transcript.{printed}
use Rattle.transcript.specs.Steps.{record_room}
use Rattle.transcript.specs.Told.{TellingLeaves, told}
use Rattle.transcript.specs.Fed.{fed, a7, whole-told}

-- as many turns as the reads can ask for
abbrev Enough : ℕ → List (List ℕ) → Type 0
Enough turns reads = length (flatten reads) + length reads < turns

-- A7. The program's turns, each of which tells the bytes held into a buffer (`told`, the promise of the call that it makes), print what the
-- definition says of the input's bytes, whatever the reads are.
pub one_function : (turns : ℕ) (out : List ℕ) → record_room ≤ length out → (reads : List (List ℕ)) → Enough turns reads
    → fed turns out fresh_session 0 [] reads ≡ printed (flatten reads)
one_function turns out room reads enough = a7 turns out reads room enough

-- .. so that cutting the input elsewhere changes nothing
pub cut-elsewhere : (turns : ℕ) (out : List ℕ) → record_room ≤ length out → (reads others : List (List ℕ)) → flatten reads ≡ flatten others → Enough turns reads → Enough turns others
    → fed turns out fresh_session 0 [] reads ≡ fed turns out fresh_session 0 [] others
cut-elsewhere turns out room reads others same enough enough' = one_function turns out room reads enough ∙ ap printed same ∙ sym (one_function turns out room others enough')

-- .. and a file told whole (`transcribed`) prints the same, where there was room for all of it
pub told-at-once : (file out : List ℕ) → (told fresh_session 0 file true out).returned.stop ≢ Stop.Full
    → take (told fresh_session 0 file true out).returned.at (told fresh_session 0 file true out).out ≡ printed file
told-at-once = whole-told

-- the program's buffer has room
pub buffer-suffices : record_room ≤ 65_536
buffer-suffices = omega arith

-- A2, of what the file's layers promise: what is read at a place, what is told into a buffer, and what a writer of lines answers and leaves.
pub record OneReading : Type 0 where
  pub of-piece : (bytes : List ℕ) (place : ℕ) (ended : Bool) (r q : Piece) → r ≡ piece_at bytes place ended → q ≡ piece_at bytes place ended → r ≡ q
  pub of-telling : (s : Session) (count : ℕ) (bytes : List ℕ) (ended : Bool) (out : List ℕ) (r q : TellingLeaves)
      → r ≡ told s count bytes ended out → q ≡ told s count bytes ended out → r ≡ q
  pub of-line : (old text : List ℕ) (at : ℕ) (new other : List ℕ) (r q : ℕ) → Wrote old new at r text → Wrote old other at q text → (r ≡ q) × (new ≡ other)

pub one-reading : OneReading
one-reading = record {
  of-piece = λ bytes place ended r q h k. h ∙ sym k;
  of-telling = λ s count bytes ended out r q h k. h ∙ sym k;
  of-line = λ old text at new other r q h k. (h.0 ∙ sym k.0, h.1 ∙ sym k.1);
}
