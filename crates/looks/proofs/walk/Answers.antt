use Rattle.std.proofs.Common.{ℕ, ◌≤◌, ◌<◌, ◌≡◌, List, refl, sym, subst, ◌∙◌, arith, length, true}
use Rattle.records.specs.declared.kinds.Record.{Record}
use Rattle.records.specs.declared.Piece.{Piece}
use Rattle.records.specs.Walk.{Read, record_at}
use Rattle.records.specs.Pieces.{piece_at, piece-ended}
use Rattle.records.specs.Ends.{next_place}
use Rattle.session.specs.Sound.{Sound, fresh-sound}
use Rattle.looks.proofs.walk.Goals as goal

-- a record that is read brings the walk further, and never behind the end of the file (D2)
read-further : (bytes : List ℕ) (place : ℕ) {r : Record} {next : ℕ} → Piece.Record r next ≡ piece_at bytes place true → (place < next) × (next ≤ length bytes)
read-further bytes place {r} {next} e = go (record_at bytes place) refl where
  go : (read : Read) → record_at bytes place ≡ read → (place < next) × (next ≤ length bytes)
  go (Read.Record s n) q =
      let same : Piece.Record r next ≡ Piece.Record s n = e ∙ sym (piece-ended bytes place q) in
      let behind : next ≡ n = cc in
      rw behind (next_place bytes place q)
  go Read.Fault q =
      let same : Piece.Record r next ≡ Piece.Fault = e ∙ sym (piece-ended bytes place q) in
      let z : ◌≡◌ {A = ℕ} 0 1 = cc in
      absurd (omega arith)
  go Read.End q =
      let same : Piece.Record r next ≡ Piece.End = e ∙ sym (piece-ended bytes place q) in
      let z : ◌≡◌ {A = ℕ} 0 1 = cc in
      absurd (omega arith)

pub loop-record-init : goal.loop-record-init
loop-record-init g c = (subst Sound (sym c.fresh-session.ensures) fresh-sound, omega arith, omega arith)

pub loop-record-smaller : goal.loop-record-smaller
loop-record-smaller g c = omega (arith, read-further _ _ c.in-Record.ensures)

pub loop-record-preserved : goal.loop-record-preserved
loop-record-preserved g c =
    let f = read-further _ _ c.in-Record.ensures in
    (c.carried_out-session.ensures, f.1, omega (arith, f))
