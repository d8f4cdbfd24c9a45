-- A file rewritten, K1: its records one behind the other, to its end, a fault or a refusal.
use Rattle.std.specs.Prelude.{ℕ, suc, ◌+◌, ◌≤◌, ◌<◌, Bool, true, false, ◌≢◌, ◌≡◌, refl, List, T, length, take, drop, get_or}
use Rattle.std.proofs.Math.Path.{sym, ap}
use Rattle.std.proofs.Common.{◌∙◌, arith, take_at}
use Rattle.lists.specs.Put.{put}
use Rattle.records.specs.declared.{kinds.Record.Record, Piece.Piece}
use Rattle.records.specs.Bytes.{all_in_range}
use Rattle.records.specs.Walk.{Read, record_at, Walk, ended, after, walk_from, walk}
use Rattle.records.specs.Pieces.{piece_of, piece_at}
use Rattle.records.specs.Ends.{next_place, reads-suffice}
use Rattle.writer.specs.declared.{Written.Written}
use Rattle.writer.specs.Writing.{WriteLeaves, write_leaves, written, written_all}
use Rattle.writer.proofs.InARow.{good-file-written, written-within, all-go-on, all-stop}
use Rattle.rewrite.specs.declared.{copy.Ending.Ending}

-- what a file's records leave of the buffer, written from its front on; and whether the file is faulty, where none of them was refused
pub record Rewrites (file old : List ℕ) (r : Ending) (new : List ℕ) : Type 0 where
  pub wrote : write_leaves r.written new ≡ written_all (walk file).records old 0
  pub tells : r.written.answer ≡ 0 → r.faulty ≡ (walk file).faulty
  pub within : r.written.place ≤ length old

-- where no record was refused
abbrev pub all_written : ℕ → ℕ → Bool → Ending
all_written end count faulty = record { written = record { answer = 0; place = end }; count = count; faulty = faulty }

-- ---- on the way
-- what is read, from the piece that the code is told
abbrev pub read_from : Piece → Read
read_from (Piece.Record r next) = Read.Record r next
read_from Piece.Fault = Read.Fault
read_from Piece.End = Read.End
read_from Piece.Waits = Read.End

piece-read : (file : List ℕ) (place : ℕ) {p : Piece} → p ≡ piece_at file place true → record_at file place ≡ read_from p
unfolding piece_at
piece-read file place e = back (record_at file place) ∙ ap read_from (sym e) where
  back : (r : Read) → r ≡ read_from (piece_of r)
  back (Read.Record r next) = refl
  back Read.Fault = refl
  back Read.End = refl

pub record-further : (file : List ℕ) (place : ℕ) {r : Record} {next : ℕ} → Piece.Record r next ≡ piece_at file place true → (place < next) × (next ≤ length file)
record-further file place e = next_place file place (piece-read file place e)

-- the walk from a place on, with reads for the whole file
abbrev walk_at : List ℕ → ℕ → Walk
walk_at file place = walk_from (suc (length file)) file place

walk-record : (file : List ℕ) (place : ℕ) {r : Record} {next : ℕ} → record_at file place ≡ Read.Record r next → walk_at file place ≡ after r (walk_at file next)
unfolding walk_from
walk-record file place {r} {next} e =
    let further = next_place file place e in
    let one : 1 + length file ≡ suc (length file) = omega arith in
    rw e (ap (after r) (sym (rw one at (reads-suffice (length file) 1 file next (omega (arith, further))))))

walk-fault : (file : List ℕ) (place : ℕ) → record_at file place ≡ Read.Fault → walk_at file place ≡ ended true
unfolding walk_from
walk-fault file place e = rw e

walk_end : (file : List ℕ) (place : ℕ) → record_at file place ≡ Read.End → walk_at file place ≡ ended false
unfolding walk_from
walk_end file place e = rw e

-- what is left to write is what is left to read
pub record Going (file old new : List ℕ) (place end : ℕ) : Type 0 where
  pub writes : written_all (walk file).records old 0 ≡ written_all (walk_at file place).records new end
  pub told : (walk file).faulty ≡ (walk_at file place).faulty
  pub inside : (end ≤ length new) × (length new ≡ length old)

pub going-starts : (file old : List ℕ) → Going file old old 0 0
going-starts file old = record { writes = refl; told = refl; inside = (omega arith, refl) }

module _ (file old new : List ℕ) (place end : ℕ) (going : Going file old new place end) where
  -- a record that is written, and one that is refused
  module _ {r : Record} {next : ℕ} (read : Piece.Record r next ≡ piece_at file place true) {w : Written} {later : List ℕ}
      (put : write_leaves w later ≡ written r new end) where
    more : walk_at file place ≡ after r (walk_at file next)
    more = walk-record file place (piece-read file place read)

    place_inside : w.place ≤ length new
    place_inside = rw (ap (λ (l : WriteLeaves). l.returned.place) put) (written-within r new end going.inside.0)

    pub going_on : w.answer ≡ 0 → length later ≡ length new → Going file old later next w.place
    going_on h kept = record {
      writes = going.writes ∙ ap (λ (k : Walk). written_all k.records new end) more ∙ all-go-on r (walk_at file next).records new end put h;
      told = going.told ∙ ap (λ (k : Walk). k.faulty) more;
      inside = (rw kept place_inside, kept ∙ going.inside.1);
    }

    pub refused-at : (n : ℕ) → w.answer ≢ 0 → Rewrites file old (record { written = w; count = n; faulty = false }) later
    refused-at n h = record {
      wrote = sym (going.writes ∙ ap (λ (k : Walk). written_all k.records new end) more ∙ all-stop r (walk_at file next).records new end put h);
      tells = λ z. absurd (h z);
      within = rw (← going.inside.1) place_inside;
    }

  over : (n : ℕ) (faulty : Bool) → walk_at file place ≡ ended faulty → Rewrites file old (all_written end n faulty) new
  unfolding written_all
  over n faulty e = record {
    wrote = sym (going.writes ∙ ap (λ (k : Walk). written_all k.records new end) e);
    tells = λ z. sym (going.told ∙ ap (λ (k : Walk). k.faulty) e);
    within = rw (← going.inside.1) going.inside.0;
  }

  pub faulty-at : (n : ℕ) → Piece.Fault ≡ piece_at file place true → Rewrites file old (all_written end n true) new
  faulty-at n e = over n true (walk-fault file place (piece-read file place e))

  pub ended_at : (n : ℕ) {p : Piece} → read_from p ≡ Read.End → p ≡ piece_at file place true
      → Rewrites file old (all_written end n false) new
  ended_at n q e = over n false (walk_end file place (piece-read file place e ∙ q))

-- K1b of the program: a good file that the buffer holds comes out as it is, byte for byte
pub good-file-rewritten : (file old new : List ℕ) (r : Ending) → Rewrites file old r new → ((i : ℕ) → get_or file i 0 < 256) → (walk file).faulty ≡ false
    → T (all_in_range (walk file).records) → length file ≤ length old → (r.written.answer ≡ 0) × (r.faulty ≡ false) × (take r.written.place new ≡ file)
unfolding put
good-file-rewritten file old new r rewrites bytes good ranged room =
    let e = rewrites.wrote ∙ good-file-written file bytes good ranged old room in
    let done : r.written.answer ≡ 0 = ap (λ (l : WriteLeaves). l.returned.answer) e in (
      done,
      rewrites.tells done ∙ good,
      ap (λ (l : WriteLeaves). take l.returned.place l.buffer) e ∙ take_at file (drop (0 + length file) old) (length file) refl,
    )
