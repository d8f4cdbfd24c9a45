-- What a read goes by: the end, a fault, or the record that its header and its part make.
use Rattle.std.specs.Prelude.{ℕ, ◌+◌, ◌≤◌, ◌<◌, true, false, not, ◌||◌, ◌≡◌, List, ltb, length, drop}
use Rattle.std.proofs.Common.{le-leb, lt-ltb, le-ltb, ltb-false}
use Rattle.std.proofs.lemmas.Bool.{lt-leb, not-false}
use Rattle.lists.specs.Tests.{neither}
use Rattle.records.specs.Fields.{header_length, record_of}
use Rattle.records.specs.Lengths.{length_above}
use Rattle.records.specs.Walk.{Read, length_at, kind_at, part_at, is_header, is_cut, is_faulty, record_at}

pub faulty-whole : (bytes : List ℕ) (place : ℕ) → place + header_length ≤ length bytes → not (is_header bytes place) || is_cut bytes place ≡ is_faulty bytes place
faulty-whole bytes place h = rw (le-ltb _ _ h)

pub read-end : (bytes : List ℕ) (place : ℕ) → length bytes ≤ place → record_at bytes place ≡ Read.End
unfolding record_at
read-end bytes place h = rw (le-leb _ _ h)

pub read-fault : (bytes : List ℕ) (place : ℕ) → place < length bytes → is_faulty bytes place ≡ true → record_at bytes place ≡ Read.Fault
unfolding record_at
read-fault bytes place h f = rw (lt-leb _ _ h, f)

-- a header that isn't whole
pub read_short : (bytes : List ℕ) (place : ℕ) → place < length bytes → length bytes < place + header_length → record_at bytes place ≡ Read.Fault
read_short bytes place h k = read-fault bytes place h (rw (lt-ltb _ _ k))

pub read-record : (bytes : List ℕ) (place : ℕ) → place < length bytes → is_faulty bytes place ≡ false
    → record_at bytes place ≡ Read.Record (record_of (kind_at bytes place) (part_at bytes place)) (place + length_at bytes place)
unfolding record_at
read-record bytes place h f = rw (lt-leb _ _ h, f)

-- a good record's header is good
pub good-header : (bytes : List ℕ) (place : ℕ) → is_faulty bytes place ≡ false → is_header bytes place ≡ true
good-header bytes place f =
    let n = neither (ltb (length bytes) (place + header_length) || not (is_header bytes place)) (is_cut bytes place) f in
    not-false (is_header bytes place) (neither (ltb (length bytes) (place + header_length)) (not (is_header bytes place)) n.0).1

-- .. it has a field, and the file holds it whole
pub good-record : (bytes : List ℕ) (place : ℕ) → is_faulty bytes place ≡ false
    → (header_length < length_at bytes place) × (place + length_at bytes place ≤ length bytes)
good-record bytes place f =
    let n = neither (ltb (length bytes) (place + header_length) || not (is_header bytes place)) (is_cut bytes place) f in
    (length_above (kind_at bytes place) (drop place bytes) (length_at bytes place) (good-header bytes place f), ltb-false _ _ n.1)
