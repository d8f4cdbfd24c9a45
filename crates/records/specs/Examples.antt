-- Worked examples: the start record of 01 "Session file" and that of 02 K6, read and written, and each thing that ends a walk.
use Rattle.std.specs.Prelude.{true, false, ◌≡◌, refl, ℕ, List, [], ◌∷◌, ◌++◌, take, replicate}
use Rattle.terms.specs.Tables.{no_row, is_table, row_of, on_step}
use Rattle.terms.specs.declared.tables.{Row.Row}
use Rattle.records.specs.declared.{kinds.Record.Record, Piece.Piece}
use Rattle.records.specs.Fields.{number, is_length, in_range}
use Rattle.records.specs.Bytes.{record_bytes, file_of}
use Rattle.records.specs.Walk.{Read, record_at, walk_from, walk}
use Rattle.records.specs.Pieces.{piece_at}

-- 18 00 01 00 64 00 00 00 A0 86 01 00 09 00 96 00 00 10 A5 D4 E8 00 00 00
abbrev start_bytes : List ℕ
start_bytes =
    0x18 ∷ 0x00 ∷ 0x01 ∷ 0x00 ∷ 0x64 ∷ 0x00 ∷ 0x00 ∷ 0x00 ∷ 0xA0 ∷ 0x86 ∷ 0x01 ∷ 0x00 ∷ 0x09 ∷ 0x00 ∷ 0x96 ∷ 0x00 ∷ 0x00 ∷ 0x10 ∷ 0xA5 ∷ 0xD4 ∷ 0xE8 ∷ 0x00 ∷ 0x00 ∷ 0x00 ∷ []

abbrev start_record : Record
start_record = Record.Start (record { step = 100; reference = 100_000; factor = 9; threshold = 150; most = 1_000_000_000_000 })

start-read : record_at start_bytes 0 ≡ Read.Record start_record 24
unfolding record_at is_length number
start-read = refl

start-written : record_bytes start_record ≡ start_bytes
unfolding record_bytes
start-written = refl

-- member 258, sell, till a later day, 1, unlimited; behind the start record
abbrev order_bytes : List ℕ
order_bytes = 16 ∷ 0 ∷ 2 ∷ 0 ∷ 2 ∷ 1 ∷ 2 ∷ 4 ∷ 1 ∷ 0 ∷ 0 ∷ 0 ∷ 0 ∷ 0 ∷ 0 ∷ 0 ∷ []

abbrev order_record : Record
order_record = Record.Order (record { member = 258; side = 2; validity = 4; quantity = 1; limit = 0 })

order-read : record_at (start_bytes ++ order_bytes) 24 ≡ Read.Record order_record 40
unfolding record_at is_length number
order-read = refl

both-written : file_of (start_record ∷ order_record ∷ []) ≡ start_bytes ++ order_bytes
unfolding record_bytes
both-written = refl

delete-read : record_at (10 ∷ 0 ∷ 3 ∷ 0 ∷ 1 ∷ 2 ∷ 0 ∷ 0 ∷ 7 ∷ 0 ∷ []) 0 ≡ Read.Record (Record.Delete (record { number = 513; member = 7 })) 10
unfolding record_at is_length number
delete-read = refl

auction-read : record_at (5 ∷ 0 ∷ 4 ∷ 0 ∷ 2 ∷ []) 0 ≡ Read.Record (Record.Auction 2) 5
unfolding record_at is_length number
auction-read = refl

-- a quote (02 K2): member 258, 300 bid at 99,800, 40 asked at 100,400
abbrev quote_bytes : List ℕ
quote_bytes =
    0x16 ∷ 0x00 ∷ 0x05 ∷ 0x00 ∷ 0x02 ∷ 0x01 ∷ 0x2C ∷ 0x01 ∷ 0x00 ∷ 0x00 ∷ 0xD8 ∷ 0x85 ∷ 0x01 ∷ 0x00 ∷ 0x28 ∷ 0x00 ∷ 0x00 ∷ 0x00 ∷ 0x30 ∷ 0x88 ∷ 0x01 ∷ 0x00 ∷ []

abbrev quote_record : Record
quote_record =
    Record.Quote (record { member = 258; bid = record { quantity = 300; limit = 99_800 }; ask = record { quantity = 40; limit = 100_400 } })

quote-read : record_at quote_bytes 0 ≡ Read.Record quote_record 22
unfolding record_at is_length number
quote-read = refl

quote-written : record_bytes quote_record ≡ quote_bytes
unfolding record_bytes
quote-written = refl

-- a bid that is not below its ask is in range, a limit of 0 is not
crossed-in-range : in_range (Record.Quote (record { member = 258; bid = record { quantity = 1; limit = 100_400 }; ask = record { quantity = 1; limit = 99_800 } })) ≡ true
crossed-in-range = refl

unlimited-out-of-range : in_range (Record.Quote (record { member = 258; bid = record { quantity = 1; limit = 99_800 }; ask = record { quantity = 1; limit = 0 } })) ≡ false
unlimited-out-of-range = refl

-- a start by bands (02 K6): from 1 on the step is 10, from 100,000 on 50
-- 26 00 06 00 02 00 01 00 00 00 0A 00 00 00 A0 86 01 00 32 00 00 00 A0 86 01 00 09 00 96 00 00 10 A5 D4 E8 00 00 00
abbrev bands_bytes : List ℕ
bands_bytes =
    0x26 ∷ 0x00 ∷ 0x06 ∷ 0x00 ∷ 0x02 ∷ 0x00 ∷ 0x01 ∷ 0x00 ∷ 0x00 ∷ 0x00 ∷ 0x0A ∷ 0x00 ∷ 0x00 ∷ 0x00 ∷ 0xA0 ∷ 0x86 ∷ 0x01 ∷ 0x00 ∷ 0x32 ∷ 0x00 ∷ 0x00 ∷ 0x00 ∷ 0xA0 ∷ 0x86 ∷ 0x01 ∷ 0x00 ∷ 0x09 ∷ 0x00 ∷ 0x96 ∷ 0x00 ∷ 0x00 ∷ 0x10 ∷ 0xA5 ∷ 0xD4 ∷ 0xE8 ∷ 0x00 ∷ 0x00 ∷ 0x00 ∷ []

abbrev bands_record : Record
bands_record =
    Record.Bands (record {
      table = record { count = 2; rows = record { lowest = 1; step = 10 } ∷ record { lowest = 100_000; step = 50 } ∷ replicate 6 no_row };
      reference = 100_000;
      factor = 9;
      threshold = 150;
      most = 1_000_000_000_000;
    })

bands-read : record_at bands_bytes 0 ≡ Read.Record bands_record 38
unfolding record_at is_length number
bands-read = refl

bands-written : record_bytes bands_record ≡ bands_bytes
unfolding record_bytes
bands-written = refl

bands-in-range : in_range bands_record ≡ true
unfolding is_table on_step row_of
bands-in-range = refl

-- nine rows, and a length that fits them: a record, of which a table holds eight rows, and it is out of range
abbrev nine_bytes : List ℕ
nine_bytes = 94 ∷ 0 ∷ 6 ∷ 0 ∷ 9 ∷ 0 ∷ replicate 88 1

abbrev nine_record : Record
nine_record =
    let row : Row = record { lowest = 0x01010101; step = 0x01010101 } in
    Record.Bands (record {
      table = record { count = 9; rows = replicate 8 row };
      reference = 0x01010101;
      factor = 0x0101;
      threshold = 0x0101;
      most = 0x0101010101010101;
    })

nine-read : record_at nine_bytes 0 ≡ Read.Record nine_record 94
unfolding record_at is_length number
nine-read = refl

nine-out-of-range : in_range nine_record ≡ false
unfolding is_table
nine-out-of-range = refl

-- a length that doesn't fit the row count, one too short to hold it, and a cut table end the walk
rows-misfit : walk (38 ∷ 0 ∷ 6 ∷ 0 ∷ 1 ∷ 0 ∷ replicate 32 0) ≡ record { records = []; faulty = true }
unfolding walk_from record_at is_length number
rows-misfit = refl

no-count : walk (5 ∷ 0 ∷ 6 ∷ 0 ∷ 1 ∷ []) ≡ record { records = []; faulty = true }
unfolding walk_from record_at is_length number
no-count = refl

cut-table : walk (take 20 bands_bytes) ≡ record { records = []; faulty = true }
unfolding walk_from record_at is_length number
cut-table = refl

-- a header with half its row count waits for more; with all of it, or with a length that has no room for one, it is judged
half-count-waits : piece_at (38 ∷ 0 ∷ 6 ∷ 0 ∷ 2 ∷ []) 0 false ≡ Piece.Waits
unfolding piece_at record_at is_length number
half-count-waits = refl

misfit-judged : piece_at (38 ∷ 0 ∷ 6 ∷ 0 ∷ 1 ∷ 0 ∷ []) 0 false ≡ Piece.Fault
unfolding piece_at record_at is_length number
misfit-judged = refl

no-count-judged : piece_at (5 ∷ 0 ∷ 6 ∷ 0 ∷ []) 0 false ≡ Piece.Fault
unfolding piece_at record_at is_length number
no-count-judged = refl

-- an empty file is good and has no records
empty : walk [] ≡ record { records = []; faulty = false }
unfolding walk_from record_at is_length number
empty = refl

two_records : walk (5 ∷ 0 ∷ 4 ∷ 0 ∷ 1 ∷ 5 ∷ 0 ∷ 4 ∷ 0 ∷ 2 ∷ []) ≡ record { records = Record.Auction 1 ∷ Record.Auction 2 ∷ []; faulty = false }
unfolding walk_from record_at is_length number
two_records = refl

-- an unknown kind, a length that is not the kind's, a cut record and a cut header end the walk
unknown-kind : walk (5 ∷ 0 ∷ 9 ∷ 0 ∷ 1 ∷ []) ≡ record { records = []; faulty = true }
unfolding walk_from record_at is_length number
unknown-kind = refl

wrong-length : walk (6 ∷ 0 ∷ 4 ∷ 0 ∷ 1 ∷ 0 ∷ []) ≡ record { records = []; faulty = true }
unfolding walk_from record_at is_length number
wrong-length = refl

cut_record : walk (5 ∷ 0 ∷ 4 ∷ 0 ∷ 1 ∷ 5 ∷ 0 ∷ 4 ∷ 0 ∷ []) ≡ record { records = Record.Auction 1 ∷ []; faulty = true }
unfolding walk_from record_at is_length number
cut_record = refl

cut-header : walk (5 ∷ 0 ∷ 4 ∷ []) ≡ record { records = []; faulty = true }
unfolding walk_from record_at is_length number
cut-header = refl
