-- Fields: 01 "Session file". Little-endian, read from the part that starts at the record's fifth byte. A kind's layout is the list of its fields' widths.
use Rattle.std.specs.Prelude.{ℕ, zero, suc, ◌+◌, ◌*◌, Bool, cond, not, ◌&&◌, List, [], ◌∷◌, eqb, ltb, get_or, drop, map}
use Rattle.std.specs.List.{range_with_len}
use Rattle.lists.specs.Sums.{sum}
use Rattle.terms.specs.Bounds.{max_rows}
use Rattle.terms.specs.Kinds.{is_number, is_member}
use Rattle.terms.specs.Orders.{is_entry, is_auction}
use Rattle.terms.specs.Parameters.{start_with, is_start}
use Rattle.terms.specs.Quotes.{is_quote}
use Rattle.terms.specs.Tables.{no_row}
use Rattle.terms.specs.declared.orders.{Entry.Entry}
use Rattle.terms.specs.declared.parameters.{Start.Start, OneStep.OneStep}
use Rattle.terms.specs.declared.quote_terms.{QuoteEntry.QuoteEntry}
use Rattle.terms.specs.declared.tables.{Row.Row, Table.Table}
use Rattle.records.specs.declared.{kinds.Deletion.Deletion, kinds.Record.Record}

-- the number that n bytes from a place on hold, the least byte first
unfoldable pub number : List ℕ → ℕ → ℕ → ℕ
number bytes place zero = 0
number bytes place (suc n) = get_or bytes place 0 + 256 * number bytes (suc place) n

-- length (2 bytes, whole record), kind (2 bytes), fields
abbrev pub header_length : ℕ
header_length = 4

-- two bytes hold a record's length: every record is shorter
abbrev pub length_bound : ℕ
length_bound = 65_536

-- the widths of a kind's fields in bytes; none for an unknown kind, and none for kind 6, whose widths go by its rows
abbrev pub widths : ℕ → List ℕ
widths kind =
    -- start: step, reference, factor, threshold, maximum value
    cond (eqb kind 1) (4 ∷ 4 ∷ 2 ∷ 2 ∷ 8 ∷ [])
    -- order: member, side, validity, quantity, limit
    (cond (eqb kind 2) (2 ∷ 1 ∷ 1 ∷ 4 ∷ 4 ∷ [])
    -- delete: number, member
    (cond (eqb kind 3) (4 ∷ 2 ∷ [])
    -- auction: which
    (cond (eqb kind 4) (1 ∷ [])
    -- quote (02 K2): member, bid quantity, bid limit, ask quantity, ask limit
    (cond (eqb kind 5) (2 ∷ 4 ∷ 4 ∷ 4 ∷ 4 ∷ [])
    []))))

abbrev pub layout_length : List ℕ → ℕ
layout_length ws = sum (λ w. w) ws

-- .. with the header; 0 where there are no fields
abbrev pub whole_length : List ℕ → ℕ
whole_length [] = 0
whole_length (w ∷ ws) = header_length + layout_length (w ∷ ws)

-- each kind's whole length; 0 for a kind that has no widths
abbrev pub kind_length : ℕ → ℕ
kind_length kind = whole_length (widths kind)

-- kind 6, a start by bands (02 K6): for each row lowest price and step; then the other start fields in their old order
abbrev pub row_widths : ℕ → List ℕ
row_widths zero = 4 ∷ 2 ∷ 2 ∷ 8 ∷ []
row_widths (suc n) = 4 ∷ 4 ∷ row_widths n

-- .. and before them the row count
abbrev pub band_widths : ℕ → List ℕ
band_widths count = 2 ∷ row_widths count

-- header and row count: what is needed to judge the header of kind 6
abbrev pub counted_length : ℕ
counted_length = header_length + 2

-- the widths by kind and part, since the row count stands in the part
abbrev pub widths_by : ℕ → List ℕ → List ℕ
widths_by kind part = cond (eqb kind 6) (band_widths (number part 0 2)) (widths kind)

abbrev pub length_by : ℕ → List ℕ → ℕ
length_by kind part = whole_length (widths_by kind part)

-- whether a length is right for a kind, given the file's bytes from the record's place on: it has two bytes, the kind is known, and it is the length of its fields
unfoldable pub is_length : ℕ → List ℕ → ℕ → Bool
is_length kind bytes length =
    ltb length length_bound && not (eqb (length_by kind (drop header_length bytes)) 0) && eqb length (length_by kind (drop header_length bytes))

-- the numbers that fields of such widths hold, from a place on: each field starts where the one before it ends
abbrev pub fields_from : List ℕ → List ℕ → ℕ → List ℕ
fields_from [] part place = []
fields_from (w ∷ ws) part place = number part place w ∷ fields_from ws part (place + w)

abbrev pub fields_of : List ℕ → List ℕ → List ℕ
fields_of ws part = fields_from ws part 0

-- a record from its fields' numbers, in their order
abbrev pub as_start : List ℕ → OneStep
as_start ns = record { step = get_or ns 0 0; reference = get_or ns 1 0; factor = get_or ns 2 0; threshold = get_or ns 3 0; most = get_or ns 4 0 }

abbrev pub as_entry : List ℕ → Entry
as_entry ns = record { member = get_or ns 0 0; side = get_or ns 1 0; validity = get_or ns 2 0; quantity = get_or ns 3 0; limit = get_or ns 4 0 }

abbrev pub as_deletion : List ℕ → Deletion
as_deletion ns = record { number = get_or ns 0 0; member = get_or ns 1 0 }

abbrev pub as_auction : List ℕ → ℕ
as_auction ns = get_or ns 0 0

abbrev pub as_quote : List ℕ → QuoteEntry
as_quote ns = record {
  member = get_or ns 0 0;
  bid = record { quantity = get_or ns 1 0; limit = get_or ns 2 0 };
  ask = record { quantity = get_or ns 3 0; limit = get_or ns 4 0 };
}

-- .. and from the part that holds them
abbrev pub start_fields : List ℕ → OneStep
start_fields part = as_start (fields_of (widths 1) part)

abbrev pub order_fields : List ℕ → Entry
order_fields part = as_entry (fields_of (widths 2) part)

abbrev pub delete_fields : List ℕ → Deletion
delete_fields part = as_deletion (fields_of (widths 3) part)

abbrev pub auction_field : List ℕ → ℕ
auction_field part = as_auction (fields_of (widths 4) part)

abbrev pub quote_fields : List ℕ → QuoteEntry
quote_fields part = as_quote (fields_of (widths 5) part)

-- kind 6 by places (02 K6): the row at an index, if it is counted
abbrev pub row_field : List ℕ → ℕ → ℕ → Row
row_field part count index = cond (ltb index count) (record { lowest = number part (2 + 8 * index) 4; step = number part (6 + 8 * index) 4 }) no_row

-- so many rows counted, of which a table has place for eight
abbrev pub table_by : List ℕ → ℕ → Table
table_by part count = record { count = count; rows = map (row_field part count) (range_with_len 0 max_rows) }

-- .. and what stands behind all of them
abbrev pub bands_by : List ℕ → ℕ → Start
bands_by part count = record {
  table = table_by part count;
  reference = number part (2 + 8 * count) 4;
  factor = number part (6 + 8 * count) 2;
  threshold = number part (8 + 8 * count) 2;
  most = number part (10 + 8 * count) 8;
}

abbrev pub table_fields : List ℕ → Table
table_fields part = table_by part (number part 0 2)

abbrev pub bands_fields : List ℕ → Start
bands_fields part = bands_by part (number part 0 2)

-- the record of a known kind
abbrev pub record_of : ℕ → List ℕ → Record
record_of kind part =
    cond (eqb kind 1) (Record.Start (start_fields part))
    (cond (eqb kind 2) (Record.Order (order_fields part))
    (cond (eqb kind 3) (Record.Delete (delete_fields part))
    (cond (eqb kind 4) (Record.Auction (auction_field part))
    (cond (eqb kind 5) (Record.Quote (quote_fields part))
    (Record.Bands (bands_fields part))))))

-- every field of a record is in its range: the tests by which the calls answer 1 (01 "Refusals by number")
abbrev pub in_range : Record → Bool
in_range (Record.Start p) = is_start (start_with p)
in_range (Record.Order e) = is_entry e
in_range (Record.Delete d) = is_number d.number && is_member d.member
in_range (Record.Auction which) = is_auction which
in_range (Record.Quote q) = is_quote q
in_range (Record.Bands s) = is_start s
