-- Writing a record, K1: what the call returns and leaves, refusals included; and records one behind the other, up to the first refusal.
use Rattle.std.specs.Prelude.{ℕ, ◌+◌, List, [], ◌∷◌, length}
use Rattle.lists.specs.Put.{put}
use Rattle.refusals.specs.Checks.{Check, answered_by, answered}
use Rattle.refusals.specs.Rows.{write_rows}
use Rattle.records.specs.declared.{kinds.Record.Record}
use Rattle.records.specs.Fields.{in_range}
use Rattle.records.specs.Bytes.{length_of, record_bytes}
use Rattle.writer.specs.declared.{Written.Written}

-- what the call returns, and the lent buffer after it
pub record WriteLeaves : Type 0 where
  pub returned : Written
  pub buffer : List ℕ

abbrev pub write_leaves : Written → List ℕ → WriteLeaves
write_leaves returned buffer = record { returned = returned; buffer = buffer }

-- 1, 12: a field out of its range, then a buffer that ends before the record would.
abbrev pub write_checks : Record → ℕ → ℕ → List Check
write_checks r size place = write_rows (in_range r) size (place + length_of r)

-- a refusal leaves the place and the buffer
abbrev pub write_refused : List ℕ → ℕ → ℕ → WriteLeaves
write_refused buffer place n = write_leaves (record { answer = n; place = place }) buffer

-- the record's bytes from the place on, and every other byte as it was
abbrev pub write_done : Record → List ℕ → ℕ → WriteLeaves
write_done r buffer place = write_leaves (record { answer = 0; place = place + length_of r }) (put buffer place (record_bytes r))

unfoldable pub written : Record → List ℕ → ℕ → WriteLeaves
written r buffer place = answered (write_checks r (length buffer) place) (write_refused buffer place) (write_done r buffer place)

-- what comes behind a record that was written; a refusal is the last
abbrev pub go_on : WriteLeaves → (List ℕ → ℕ → WriteLeaves) → WriteLeaves
go_on leaves later = answered_by leaves.returned.answer (λ n. leaves) (later leaves.buffer leaves.returned.place)

-- records one behind the other
unfoldable pub written_all : List Record → List ℕ → ℕ → WriteLeaves
written_all [] buffer place = write_leaves (record { answer = 0; place = place }) buffer
written_all (r ∷ rs) buffer place = go_on (written r buffer place) (written_all rs)
