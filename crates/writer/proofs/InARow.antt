-- Records in a row, K1: they are written one by one, and where each is in range and the buffer holds all of them, what is written are the bytes of
-- their file.
use Prim.Native.Nat.{ℕ, zero, suc, ◌+◌, ◌≤◌, ◌<◌}
use Rattle.std.specs.Prelude.{Bool, true, false, ◌≢◌, ◌≡◌, List, [], ◌∷◌, ◌++◌, T, ltb, length, get_or}
use Rattle.std.proofs.Math.Path.{refl}
use Rattle.std.proofs.Common.{sym, arith, length-append, le-ltb, ltb-false}
use Rattle.lists.specs.Tests.{passes, and_both}
use Rattle.lists.specs.Put.{put, put-nothing, put-length, put-append}
use Rattle.refusals.specs.Checks.{answered_by}
use Rattle.records.specs.declared.{kinds.Record.Record}
use Rattle.records.specs.Fields.{in_range}
use Rattle.records.specs.Bytes.{length_of, record_bytes, file_of, all_in_range}
use Rattle.records.specs.Walk.{walk}
use Rattle.records.specs.RoundTrip.{bytes-length, good-file-back}
use Rattle.writer.specs.declared.{Written.Written}
use Rattle.writer.specs.Writing.{write_leaves, write_done, written, written_all}
use Rattle.writer.proofs.WriteCall.{write-out-of-range, write-too-long, write_done_lem}

-- one that is in range, and that the buffer holds
written-whole : (r : Record) (buffer : List ℕ) (place : ℕ) → T (in_range r) → place + length_of r ≤ length buffer → written r buffer place ≡ write_done r buffer place
written-whole r buffer place h room =
    sym (rw (bytes-length r) at (write_done_lem r buffer place (passes (in_range r) h) (le-ltb _ _ room) (refl, refl)))

-- the place answered is never behind the buffer's end, where the place asked for is not
pub written-within : (r : Record) (buffer : List ℕ) (place : ℕ) → place ≤ length buffer → (written r buffer place).returned.place ≤ length buffer
written-within r buffer place h = go (in_range r) (ltb (length buffer) (place + length_of r)) refl refl where
  go : (a b : Bool) → in_range r ≡ a → ltb (length buffer) (place + length_of r) ≡ b → (written r buffer place).returned.place ≤ length buffer
  go false b p q = rw (← write-out-of-range r buffer place p) h
  go true true p q = rw (← write-too-long r buffer place p q) h
  go true false p q = rw (written-whole r buffer place (rw p tt) (ltb-false _ _ q)) (ltb-false _ _ q)

-- a record that was written, and the others behind it; or one that was refused, and no other
module _ (r : Record) (rs : List Record) (buffer : List ℕ) (place : ℕ) {w : Written} {later : List ℕ} (e : write_leaves w later ≡ written r buffer place) where
  pub all-go-on : w.answer ≡ 0 → written_all (r ∷ rs) buffer place ≡ written_all rs later w.place
  unfolding written_all
  all-go-on h = rw (← e, h)

  pub all-stop : w.answer ≢ 0 → written_all (r ∷ rs) buffer place ≡ write_leaves w later
  unfolding written_all
  all-stop h = rw (← e) (go w.answer h) where
    go : (n : ℕ) → n ≢ 0 → answered_by n (λ m. write_leaves w later) (written_all rs later w.place) ≡ write_leaves w later
    go zero k = absurd (k refl)
    go (suc n) k = refl

-- K1: all of them
pub written_in_a_row : (rs : List Record) (buffer : List ℕ) (place : ℕ) → T (all_in_range rs) → place + length (file_of rs) ≤ length buffer
    → written_all rs buffer place ≡ record { returned = record { answer = 0; place = place + length (file_of rs) }; buffer = put buffer place (file_of rs) }
unfolding written_all
written_in_a_row [] buffer place h room =
    let e : place ≡ place + 0 = omega arith in
    rw (← put-nothing buffer place (omega arith), ← e)
written_in_a_row (r ∷ rs) buffer place h room =
    let (here, behind) = and_both (in_range r) (all_in_range rs) h in
    let l = length-append (record_bytes r) (file_of rs) in
    let n = bytes-length r in
    let fits : place + length_of r ≤ length buffer = omega (arith, l, n) in
    let kept = put-length buffer place (record_bytes r) (omega (arith, n)) in
    let e : place + length_of r + length (file_of rs) ≡ place + length (record_bytes r ++ file_of rs) = omega (arith, l, n) in
    let p : place + length (record_bytes r) ≡ place + length_of r = omega (arith, n) in
    let joined = rw p at (put-append buffer place (record_bytes r) (file_of rs) (omega arith)) in
    rw (
      written-whole r buffer place here fits,
      written_in_a_row rs (put buffer place (record_bytes r)) (place + length_of r) behind (omega (arith, kept, l, n)),
      e,
      joined,
    )

-- K1: what is read of a good file is written as that file
pub good-file-written : (file : List ℕ) → ((i : ℕ) → get_or file i 0 < 256) → (walk file).faulty ≡ false → T (all_in_range (walk file).records)
    → (buffer : List ℕ) → length file ≤ length buffer
    → written_all (walk file).records buffer 0 ≡ record { returned = record { answer = 0; place = length file }; buffer = put buffer 0 file }
good-file-written file small good ranged buffer room =
    let back = good-file-back file small good ranged in
    let e : 0 + length file ≡ length file = omega arith in
    rw (back, e) at (written_in_a_row (walk file).records buffer 0 ranged (rw back (omega arith)))
