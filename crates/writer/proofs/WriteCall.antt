-- Writing a record from what its code learns on the way, for its promise.
use Rattle.std.specs.Prelude.{ℕ, ◌+◌, true, false, ◌≡◌, List, ltb, length}
use Rattle.std.proofs.Common.{arith}
use Rattle.lists.specs.Put.{Wrote}
use Rattle.refusals.specs.Checks.{Check, answered-refused, answered-done, hits, passes, passes-last}
use Rattle.records.specs.declared.{kinds.Record.Record}
use Rattle.records.specs.Fields.{in_range}
use Rattle.records.specs.Bytes.{length_of, record_bytes}
use Rattle.records.specs.RoundTrip.{bytes-length}
use Rattle.writer.specs.Writing.{write_leaves, write_checks, write_refused, write_done, written}

module _ (r : Record) (buffer : List ℕ) (place : ℕ) where
  abbrev checks : List Check
  checks = write_checks r (length buffer) place

  pub write-out-of-range : in_range r ≡ false → write_refused buffer place 1 ≡ written r buffer place
  unfolding written
  write-out-of-range h = answered-refused checks (write_refused buffer place) _ (hits 1 _ (rw h)) (λ z. omega arith)

  module _ (good : in_range r ≡ true) where
    pub write-too-long : ltb (length buffer) (place + length_of r) ≡ true → write_refused buffer place 12 ≡ written r buffer place
    unfolding written
    write-too-long h = answered-refused checks (write_refused buffer place) _ (passes 1 _ (rw good) (hits 12 _ h)) (λ z. omega arith)

    pub write_done_lem : ltb (length buffer) (place + length_of r) ≡ false → {next : ℕ} {later : List ℕ} → Wrote buffer later place next (record_bytes r)
        → write_leaves (record { answer = 0; place = next }) later ≡ written r buffer place
    unfolding written
    write_done_lem h w =
        rw (w.0, w.1, bytes-length r) (answered-done checks (write_refused buffer place) (write_done r buffer place) (passes 1 _ (rw good) (passes-last 12 h)))
