-- The walk: 01 "Session file". The records of a file one by one, then its end or a fault.
use Rattle.std.specs.Prelude.{ℕ, zero, suc, ◌+◌, ◌-◌, Bool, true, false, cond, not, ◌||◌, List, [], ◌∷◌, leb, ltb, length, take, drop}
use Rattle.records.specs.declared.{kinds.Record.Record as AnyRecord}
use Rattle.records.specs.Fields.{number, header_length, is_length, record_of}

abbrev pub length_at : List ℕ → ℕ → ℕ
length_at bytes place = number bytes place 2

abbrev pub kind_at : List ℕ → ℕ → ℕ
kind_at bytes place = number bytes (place + 2) 2

-- the record's part of the file from its fifth byte on
abbrev pub part_at : List ℕ → ℕ → List ℕ
part_at bytes place = take (length_at bytes place - header_length) (drop (place + header_length) bytes)

-- a known kind, and a length that is right for it
abbrev pub is_header : List ℕ → ℕ → Bool
is_header bytes place = is_length (kind_at bytes place) (drop place bytes) (length_at bytes place)

-- the file ends before the record does
abbrev pub is_cut : List ℕ → ℕ → Bool
is_cut bytes place = ltb (length bytes) (place + length_at bytes place)

-- a cut header, an unknown kind, a length that is not the kind's, or a cut record
abbrev pub is_faulty : List ℕ → ℕ → Bool
is_faulty bytes place = ltb (length bytes) (place + header_length) || not (is_header bytes place) || is_cut bytes place

-- what stands at a place: a record and the place behind it, a fault, or the end
pub data Read : Type 0 where
  Record : AnyRecord → ℕ → Read
  Fault : Read
  End : Read

unfoldable pub record_at : List ℕ → ℕ → Read
record_at bytes place =
    cond (leb (length bytes) place) Read.End
    (cond (is_faulty bytes place) Read.Fault
    (Read.Record (record_of (kind_at bytes place) (part_at bytes place)) (place + length_at bytes place)))

-- the records of a file, and whether a fault ended the walk
pub record Walk : Type 0 where
  pub records : List AnyRecord
  pub faulty : Bool

abbrev pub ended : Bool → Walk
ended faulty = record { records = []; faulty = faulty }

abbrev pub after : AnyRecord → Walk → Walk
after r w = record { records = r ∷ w.records; faulty = w.faulty }

-- what was read, and the walk from the next place on
abbrev pub go_on : Read → (ℕ → Walk) → Walk
go_on Read.End later = ended false
go_on Read.Fault later = ended true
go_on (Read.Record r next) later = after r (later next)

-- at most n reads from a place on
unfoldable pub walk_from : ℕ → List ℕ → ℕ → Walk
walk_from zero bytes place = ended false
walk_from (suc n) bytes place = go_on (record_at bytes place) (λ next. walk_from n bytes next)

-- a file has fewer records than bytes, so that the reads suffice
abbrev pub walk : List ℕ → Walk
walk bytes = walk_from (suc (length bytes)) bytes 0
