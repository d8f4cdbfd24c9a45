-- A start by bands that stands at a place (02 K6): where its part lies, and that it is read from there.
use Rattle.std.specs.Prelude.{ℕ, ◌+◌, ◌-◌, ◌≤◌, ◌<◌, Bool, true, false, cond, ◌≡◌, refl, List, [], leb, eqb, length, take, drop}
use Rattle.std.proofs.Common.{sym, ◌∙◌, ap, arith, leb-true, leb-false}
use Rattle.terms.specs.declared.parameters.{Start.Start}
use Rattle.records.specs.declared.{kinds.Record.Record}
use Rattle.records.specs.Fields.{header_length, start_fields, order_fields, delete_fields, auction_field, quote_fields, bands_fields, record_of}
use Rattle.records.specs.Bytes.{kind_of}
use Rattle.records.specs.Walk.{Read, length_at, kind_at, part_at, is_faulty, record_at}
use Rattle.records.specs.Reads.{read-end, read-fault, read-record, good-record}

-- the record that its header and its part make, where one stands
abbrev pub record_in : List ℕ → ℕ → Record
record_in bytes place = record_of (kind_at bytes place) (part_at bytes place)

-- a start by bands stands at a place, whole (02 K6)
pub record BandsAt (bytes : List ℕ) (place : ℕ) : Type 0 where
  pub start : Start
  pub behind : ℕ
  pub stands : record_at bytes place ≡ Read.Record (Record.Bands start) behind

-- its part is within the file, and is read as that start
module _ (bytes : List ℕ) (place : ℕ) (b : BandsAt bytes place) where
  abbrev part : List ℕ
  part = part_at bytes place

  made : (is_faulty bytes place ≡ false) × (record_of (kind_at bytes place) part ≡ Record.Bands b.start)
  made = go (leb (length bytes) place) (is_faulty bytes place) refl refl where
    read_of : Read → Record
    read_of (Read.Record r next) = r
    read_of Read.Fault = Record.Auction 0
    read_of Read.End = Record.Auction 0

    no-bands : Record.Auction 0 ≡ Record.Bands b.start → ⊥
    no-bands e = let z : ◌≡◌ {A = ℕ} 4 6 = ap kind_of e in omega (arith, z)

    go : (a c : Bool) → leb (length bytes) place ≡ a → is_faulty bytes place ≡ c → (is_faulty bytes place ≡ false) × (record_of (kind_at bytes place) part ≡ Record.Bands b.start)
    go true c p q = absurd (no-bands (ap read_of (sym (read-end bytes place (leb-true _ _ p)) ∙ b.stands)))
    go false true p q = absurd (no-bands (ap read_of (sym (read-fault bytes place (leb-false _ _ p) q) ∙ b.stands)))
    go false false p q = (q, ap read_of (sym (read-record bytes place (leb-false _ _ p) q) ∙ b.stands))

  pub bands-record : record_in bytes place ≡ Record.Bands b.start
  bands-record = made.1

  pub bands-within : (header_length < length_at bytes place) × (place + length_at bytes place ≤ length bytes)
  bands-within = good-record bytes place made.0

  pub bands-part : bands_fields part ≡ b.start
  bands-part = go (eqb (kind_at bytes place) 1) (eqb (kind_at bytes place) 2) (eqb (kind_at bytes place) 3) (eqb (kind_at bytes place) 4) (eqb (kind_at bytes place) 5) made.1 where
    start_in : Record → Start
    start_in (Record.Bands x) = x
    start_in (Record.Start x) = bands_fields []
    start_in (Record.Order x) = bands_fields []
    start_in (Record.Delete x) = bands_fields []
    start_in (Record.Auction x) = bands_fields []
    start_in (Record.Quote x) = bands_fields []

    other : {r : Record} → (kind_of r ≡ 6 → ⊥) → r ≡ Record.Bands b.start → bands_fields part ≡ b.start
    other n e = absurd (n (ap kind_of e))

    go : (one two three four five : Bool)
        → cond one (Record.Start (start_fields part)) (cond two (Record.Order (order_fields part)) (cond three (Record.Delete (delete_fields part))
        (cond four (Record.Auction (auction_field part)) (cond five (Record.Quote (quote_fields part)) (Record.Bands (bands_fields part))))))
        ≡ Record.Bands b.start → bands_fields part ≡ b.start
    go true b c d e h = other (λ z. omega (arith, z)) h
    go false true c d e h = other (λ z. omega (arith, z)) h
    go false false true d e h = other (λ z. omega (arith, z)) h
    go false false false true e h = other (λ z. omega (arith, z)) h
    go false false false false true h = other (λ z. omega (arith, z)) h
    go false false false false false h = ap start_in h

-- the part as it is cut out of the bytes
pub part_cut : (bytes : List ℕ) (place : ℕ) {n : ℕ} → n ≡ length_at bytes place → take (place + n - (place + header_length)) (drop (place + header_length) bytes) ≡ part_at bytes place
part_cut bytes place {n} e = let same : place + n - (place + header_length) ≡ n - header_length = omega arith in rw (same, e)
