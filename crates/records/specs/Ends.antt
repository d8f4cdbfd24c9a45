-- D2: the walk ends. Every record brings it further, and never behind the end of the file.
use Rattle.std.specs.Prelude.{ℕ, zero, suc, ◌+◌, ◌≤◌, ◌<◌, Bool, true, false, ◌≡◌, refl, List, leb, length}
use Rattle.std.proofs.Common.{true≢false, sym, ◌∙◌, ap, arith, leb-true, leb-false}
use Rattle.records.specs.declared.{kinds.Record.Record}
use Rattle.records.specs.Walk.{Read, is_faulty, record_at, ended, after, go_on, walk_from}
use Rattle.records.specs.Reads.{read-end, read-fault, read-record, good-record}

abbrev next_of : ℕ → Read → ℕ
next_of place (Read.Record r next) = next
next_of place Read.Fault = place
next_of place Read.End = place

abbrev is_record : Read → Bool
is_record (Read.Record r next) = true
is_record Read.Fault = false
is_record Read.End = false

pub next_place : (bytes : List ℕ) (place : ℕ) {r : Record} {next : ℕ} → record_at bytes place ≡ Read.Record r next → (place < next) × (next ≤ length bytes)
next_place bytes place {r} {next} e = go (leb (length bytes) place) (is_faulty bytes place) refl refl where
  go : (a b : Bool) → leb (length bytes) place ≡ a → is_faulty bytes place ≡ b → (place < next) × (next ≤ length bytes)
  go true b p q = absurd (true≢false (ap is_record (sym e ∙ read-end bytes place (leb-true _ _ p))))
  go false true p q = absurd (true≢false (ap is_record (sym e ∙ read-fault bytes place (leb-false _ _ p) q)))
  go false false p q =
      let n = ap (next_of place) (sym e ∙ read-record bytes place (leb-false _ _ p) q) in
      let g = good-record bytes place q in
      (omega (arith, n, g), omega (arith, n, g))

pub nothing_left : (n : ℕ) (bytes : List ℕ) (place : ℕ) → length bytes ≤ place → walk_from n bytes place ≡ ended false
unfolding walk_from
nothing_left zero bytes place h = refl
nothing_left (suc n) bytes place h = rw (read-end bytes place h)

-- where as many reads are allowed as bytes are left, more of them change nothing
pub reads-suffice : (n more : ℕ) (bytes : List ℕ) (place : ℕ) → length bytes ≤ place + n → walk_from (more + n) bytes place ≡ walk_from n bytes place
unfolding walk_from
reads-suffice zero more bytes place h = nothing_left (more + zero) bytes place (omega (arith, h))
reads-suffice (suc n) more bytes place h = rw e (go (λ next k. reads-suffice n more bytes next k) (record_at bytes place) refl) where
  e : more + suc n ≡ suc (more + n)
  e = omega arith

  go : ((next : ℕ) → length bytes ≤ next + n → walk_from (more + n) bytes next ≡ walk_from n bytes next) → (r : Read) → record_at bytes place ≡ r
      → go_on r (λ next. walk_from (more + n) bytes next) ≡ go_on r (λ next. walk_from n bytes next)
  go later Read.End q = refl
  go later Read.Fault q = refl
  go later (Read.Record r next) q = let p = next_place bytes place q in ap (after r) (later next (omega (arith, p, h)))
