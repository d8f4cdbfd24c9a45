-- The bytes of a record: 01 "Session file". Its header and its fields as its kind's layout has them, and a file of records one behind the other.
use Rattle.std.specs.Prelude.{ℕ, zero, suc, Bool, List, [], ◌∷◌, ◌++◌}
use Rattle.lists.specs.Choice.{all}
use Rattle.terms.specs.Tables.{all_rows}
use Rattle.terms.specs.declared.tables.{Row.Row}
use Rattle.records.specs.declared.{kinds.Record.Record}
use Rattle.records.specs.Fields.{widths, band_widths, whole_length, in_range}
use Rattle.records.specs.Layout.{bytes_of}

-- a record's kind
abbrev pub kind_of : Record → ℕ
kind_of (Record.Start p) = 1
kind_of (Record.Order e) = 2
kind_of (Record.Delete d) = 3
kind_of (Record.Auction which) = 4
kind_of (Record.Quote q) = 5
kind_of (Record.Bands s) = 6

-- the widths of its fields
abbrev pub widths_of : Record → List ℕ
widths_of (Record.Start p) = widths 1
widths_of (Record.Order e) = widths 2
widths_of (Record.Delete d) = widths 3
widths_of (Record.Auction which) = widths 4
widths_of (Record.Quote q) = widths 5
widths_of (Record.Bands s) = band_widths s.table.count

-- so many rows' numbers (02 K6); zeros where there are no more rows
abbrev pub row_numbers : ℕ → List Row → List ℕ
row_numbers zero rs = []
row_numbers (suc n) [] = 0 ∷ 0 ∷ row_numbers n []
row_numbers (suc n) (r ∷ rs) = r.lowest ∷ r.step ∷ row_numbers n rs

-- its fields' numbers, in the order of their widths
abbrev pub numbers_of : Record → List ℕ
numbers_of (Record.Start p) = p.step ∷ p.reference ∷ p.factor ∷ p.threshold ∷ p.most ∷ []
numbers_of (Record.Order e) = e.member ∷ e.side ∷ e.validity ∷ e.quantity ∷ e.limit ∷ []
numbers_of (Record.Delete d) = d.number ∷ d.member ∷ []
numbers_of (Record.Auction which) = which ∷ []
numbers_of (Record.Quote q) = q.member ∷ q.bid.quantity ∷ q.bid.limit ∷ q.ask.quantity ∷ q.ask.limit ∷ []
numbers_of (Record.Bands s) =
    s.table.count ∷ row_numbers s.table.count (all_rows s.table) ++ (s.reference ∷ s.factor ∷ s.threshold ∷ s.most ∷ [])

-- its length, with the header
abbrev pub length_of : Record → ℕ
length_of r = whole_length (widths_of r)

-- the header's fields: length, kind
abbrev pub header_widths : List ℕ
header_widths = 2 ∷ 2 ∷ []

abbrev pub header_bytes : Record → List ℕ
header_bytes r = bytes_of header_widths (length_of r ∷ kind_of r ∷ [])

abbrev pub field_bytes : Record → List ℕ
field_bytes r = bytes_of (widths_of r) (numbers_of r)

-- header, then fields
unfoldable pub record_bytes : Record → List ℕ
record_bytes r = header_bytes r ++ field_bytes r

-- a file of these records
abbrev pub file_of : List Record → List ℕ
file_of [] = []
file_of (r ∷ rs) = record_bytes r ++ file_of rs

-- every field of every record is in its range
abbrev pub all_in_range : List Record → Bool
all_in_range rs = all in_range rs
