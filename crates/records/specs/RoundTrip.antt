-- Records written and read, K1: what is written is read back, and what is read of a good file is written back.
use Rattle.std.specs.Prelude.{ℕ, zero, suc, ◌+◌, ◌-◌, ◌^◌, ◌≤◌, ◌<◌, Bool, true, false, not, ◌&&◌, ◌≡◌, T, eqb, leb, ltb, length, take, drop, get_or}
use Rattle.std.proofs.Common.{true≢false, sym, ◌∙◌, ⊎_elim, arith, length-append, length-take, length-drop, take-append-drop, drop_of_length-le, take_at, get_or-take, get_or-drop, le-ltb, leb-true, leb-false}
use Rattle.std.proofs.Math.Path.{refl, ap}
use mathlib.Core.List.{List, [], ◌∷◌, ◌++◌, append-nil, append_assoc}
use Rattle.std.proofs.Math.ListN.{get_or-eq_default}
use Rattle.std.proofs.Math.Seq.{drop-append_seam, take-add, drop-drop}
use Rattle.lists.specs.Tests.{tests, decided, and_both}
use Rattle.terms.specs.Bounds.{min_price, min_rows, max_rows}
use Rattle.terms.specs.Kinds.{within, is_price, is_member, is_quantity, is_number}
use Rattle.terms.specs.Orders.{is_side, is_validity, is_limit, limit_from}
use Rattle.terms.specs.Parameters.{parameters_from, start_with, is_start}
use Rattle.terms.specs.Made.{ParametersHold}
use Rattle.terms.proofs.Made.{parameters-hold}
use Rattle.terms.specs.Quotes.{is_quote_side}
use Rattle.terms.specs.Tables.{all_rows, is_row, one_row}
use Rattle.terms.proofs.TableLaws.{table-parts}
use Rattle.terms.specs.declared.parameters.{Start.Start}
use Rattle.terms.specs.declared.quote_terms.{SideEntry.SideEntry}
use Rattle.records.specs.declared.{kinds.Record.Record}
use Rattle.records.specs.Fields.{number, header_length, length_bound, row_widths, band_widths, layout_length, whole_length, widths_by, length_by, is_length, fields_of, as_start, as_entry, as_deletion, as_auction, as_quote, bands_by, bands_fields, record_of, in_range}
use Rattle.records.specs.Bytes.{kind_of, widths_of, numbers_of, length_of, header_widths, header_bytes, field_bytes, record_bytes, file_of, all_in_range}
use Rattle.records.specs.Layout.{Fit, bytes_count, fields_back, bytes-taken, bytes_back}
use Rattle.records.specs.Lengths.{bands-length, bands-known, of-kind, length-parts, length-is, length-passes, widths-part}
use Rattle.records.specs.TableBytes.{five, fits, row_fits, rows-count, rows_fit, numbers-read, as_bands, bands-numbered, bands-back}
use Rattle.records.specs.Walk.{Read, length_at, kind_at, part_at, is_faulty, record_at, Walk, after, go_on, walk_from, walk}
use Rattle.records.specs.Reads.{faulty-whole, read-end, read-fault, read-record, good-header, good-record}
use Rattle.records.specs.Ends.{nothing_left}
use Rattle.records.specs.Pieces.{moved-read}

-- what the test of a start says
start-parts : (s : Start) → T (is_start s) → ParametersHold (parameters_from s)
start-parts s h = parameters-hold (parameters_from s) h

-- it counts 1 to 8 rows
pub bands-counted : (s : Start) → T (is_start s) → T (within min_rows max_rows s.table.count)
bands-counted s h = (table-parts s.table (start-parts s h).table-holds).counted

-- every record's kind is known, its number has two bytes, and it has a number for each width
laid_out : (r : Record) → (eqb (length_of r) 0 ≡ false) × (kind_of r < 256 ^ 2) × (length (numbers_of r) ≡ length (widths_of r))
laid_out (Record.Start p) = (refl, omega arith, refl)
laid_out (Record.Order e) = (refl, omega arith, refl)
laid_out (Record.Delete d) = (refl, omega arith, refl)
laid_out (Record.Auction which) = (refl, omega arith, refl)
laid_out (Record.Quote q) = (refl, omega arith, refl)
laid_out (Record.Bands s) = (
  bands-known s.table.count,
  omega arith,
  ap suc (rows-count s.table.count (all_rows s.table) _ refl),
)

-- .. and where it is in range, it has a field, and its length two bytes
pub length-bounds : (r : Record) → T (in_range r) → (header_length < length_of r) × (length_of r < length_bound)
length-bounds (Record.Start p) h = (omega arith, omega arith)
length-bounds (Record.Order e) h = (omega arith, omega arith)
length-bounds (Record.Delete d) h = (omega arith, omega arith)
length-bounds (Record.Auction which) h = (omega arith, omega arith)
length-bounds (Record.Quote q) h = (omega arith, omega arith)
length-bounds (Record.Bands s) h =
    let l = bands-length s.table.count in
    let w = and_both (leb min_rows s.table.count) (leb s.table.count max_rows) (bands-counted s h) in
    (omega (arith, l), omega (tests, l, w))

-- its length is its header's and its fields'
fields-length : (r : Record) → header_length + length (field_bytes r) ≡ length_of r
fields-length r =
    let l = laid_out r in
    rw (bytes_count (widths_of r) (numbers_of r) l.2) (sym (length-parts (widths_of r) l.0))

-- a record's bytes are as many as its header says
pub bytes-length : (r : Record) → length (record_bytes r) ≡ length_of r
unfolding record_bytes
bytes-length r = omega (arith, fields-length r)

-- ---- numbers in range have room in their widths

-- a limit, which may be 0
limit-fits : (x : ℕ) → T (is_limit (limit_from x)) → x < 256 ^ 4
limit-fits zero h = omega arith
limit-fits (suc x) h = fits _ _ (suc x) 4 h tt

-- a side of a quote
side-fits : (e : SideEntry) → T (is_quote_side e) → (e.quantity < 256 ^ 4) × (e.limit < 256 ^ 4)
side-fits e h = let (quantity, limit) = and_both (is_quantity e.quantity) (is_price e.limit) h in (fits _ _ _ 4 quantity tt, fits _ _ _ 4 limit tt)

-- a start's numbers behind its step or its rows
later-fit : (s : Start) → T (is_start s) → Fit (row_widths 0) (s.reference ∷ s.factor ∷ s.threshold ∷ s.most ∷ [])
later-fit s h =
    let parts = start-parts s h in
    (fits _ _ _ 4 parts.reference-price tt, (fits _ _ _ 2 parts.factor-in-range tt, (fits _ _ _ 2 parts.threshold-in-range tt, (fits _ _ _ 8 parts.most-in-range tt, tt))))

-- a record's numbers, where it is in range
pub bytes_fit : (r : Record) → T (in_range r) → Fit (widths_of r) (numbers_of r)
bytes_fit (Record.Start p) h =
    let counted = (table-parts (one_row p.step) (start-parts (start_with p) h).table-holds).each_row in
    let (row, none) = and_both (is_row (record { lowest = min_price; step = p.step })) true counted in
    ((row_fits (record { lowest = min_price; step = p.step }) row).1, later-fit (start_with p) h)
bytes_fit (Record.Order e) h =
    let (member, side, validity, quantity, limit) =
    five (is_member e.member) (is_side e.side) (is_validity e.validity) (is_quantity e.quantity) _ h in
    (fits _ _ _ 2 member tt, (fits _ _ _ 1 side tt, (fits _ _ _ 1 validity tt, (fits _ _ _ 4 quantity tt, (limit-fits e.limit limit, tt)))))
bytes_fit (Record.Delete d) h = let (number, member) = and_both (is_number d.number) _ h in (fits _ _ _ 4 number tt, (fits _ _ _ 2 member tt, tt))
bytes_fit (Record.Auction which) h = (fits _ _ _ 1 h tt, tt)
bytes_fit (Record.Quote q) h =
    let (front, ask) = and_both (is_member q.member && is_quote_side q.bid) (is_quote_side q.ask) h in
    let (member, bid) = and_both (is_member q.member) (is_quote_side q.bid) front in
    let (bid-quantity, bid-limit) = side-fits q.bid bid in
    let (ask-quantity, ask-limit) = side-fits q.ask ask in
    (fits _ _ _ 2 member tt, (bid-quantity, (bid-limit, (ask-quantity, (ask-limit, tt)))))
bytes_fit (Record.Bands s) h =
    let parts = table-parts s.table (start-parts s h).table-holds in
    (fits _ _ _ 2 parts.counted tt, rows_fit s.table.count (all_rows s.table) _ parts.each_row (later-fit s h))

-- ---- what is written is read back

-- a record is the one that its kind and its numbers make
record-made : (r : Record) → T (in_range r) → (part : List ℕ) → fields_of (widths_of r) part ≡ numbers_of r → record_of (kind_of r) part ≡ r
record-made (Record.Start p) h part e = ap (λ (ns : List ℕ). Record.Start (as_start ns)) e
record-made (Record.Order o) h part e = ap (λ (ns : List ℕ). Record.Order (as_entry ns)) e
record-made (Record.Delete d) h part e = ap (λ (ns : List ℕ). Record.Delete (as_deletion ns)) e
record-made (Record.Auction which) h part e = ap (λ (ns : List ℕ). Record.Auction (as_auction ns)) e
record-made (Record.Quote q) h part e = ap (λ (ns : List ℕ). Record.Quote (as_quote ns)) e
record-made (Record.Bands s) h part e =
    let table = (start-parts s h).table-holds in
    let count : number part 0 2 ≡ s.table.count = ap (λ (ns : List ℕ). get_or ns 0 0) e in
    ap Record.Bands
    (ap (bands_by part) count ∙ bands-numbered part s.table.count (bands-counted s h) ∙ ap (as_bands s.table.count) e ∙ bands-back s table)

-- .. and its widths are those that its kind and its bytes say
widths-made : (r : Record) (part : List ℕ) → fields_of (widths_of r) part ≡ numbers_of r → widths_by (kind_of r) part ≡ widths_of r
widths-made (Record.Start p) part e = refl
widths-made (Record.Order o) part e = refl
widths-made (Record.Delete d) part e = refl
widths-made (Record.Auction which) part e = refl
widths-made (Record.Quote q) part e = refl
widths-made (Record.Bands s) part e = ap (λ (ns : List ℕ). band_widths (get_or ns 0 0)) e

-- .. which its bytes hold
fields_read : (r : Record) → T (in_range r) → (rest : List ℕ) → fields_of (widths_of r) (field_bytes r ++ rest) ≡ numbers_of r
fields_read r h rest = fields_back (widths_of r) (numbers_of r) rest (bytes_fit r h)

fields_made : (r : Record) → T (in_range r) → record_of (kind_of r) (field_bytes r) ≡ r
fields_made r h = record-made r h (field_bytes r) (rw (append-nil (field_bytes r)) at (fields_read r h []))

-- a record at the front: its header, its part and then it itself are read back
module _ (r : Record) (h : T (in_range r)) (rest : List ℕ) where
  abbrev bytes : List ℕ
  bytes = record_bytes r ++ rest

  header-back : fields_of header_widths bytes ≡ length_of r ∷ kind_of r ∷ []
  unfolding record_bytes
  header-back = fields_back header_widths (length_of r ∷ kind_of r ∷ []) (field_bytes r ++ rest) ((length-bounds r h).1, ((laid_out r).1, tt))

  length_back : length_at bytes 0 ≡ length_of r
  length_back = ap (λ (ns : List ℕ). get_or ns 0 0) header-back

  kind-back : kind_at bytes 0 ≡ kind_of r
  kind-back = ap (λ (ns : List ℕ). get_or ns 1 0) header-back

  behind-header : drop header_length bytes ≡ field_bytes r ++ rest
  unfolding record_bytes
  behind-header = refl

  part-back : part_at bytes 0 ≡ field_bytes r
  part-back = rw (length_back, behind-header) (take_at (field_bytes r) rest (length_of r - header_length) (omega (arith, fields-length r)))

  whole-there : length_of r ≤ length bytes
  whole-there = rw (length-append (record_bytes r) rest, bytes-length r) (omega arith)

  -- its length is right
  length-good : is_length (kind_of r) bytes (length_of r) ≡ true
  length-good =
      let e : length_by (kind_of r) (drop header_length bytes) ≡ length_of r = rw behind-header (ap whole_length (widths-made r (field_bytes r ++ rest) (fields_read r h rest))) in
      length-passes (kind_of r) bytes (length_of r) (length-bounds r h).1 (rw e (laid_out r).0) (sym e)

  good : is_faulty bytes 0 ≡ false
  good =
      sym (faulty-whole bytes 0 (omega (arith, length-bounds r h, whole-there))) ∙
      rw (length_back, kind-back, length-good, le-ltb (length bytes) (0 + length_of r) (omega (arith, whole-there)))

  front-back : record_at bytes 0 ≡ Read.Record r (length_of r)
  front-back =
      let e : 0 + length_of r ≡ length_of r = omega arith in
      read-record bytes 0 (omega (arith, length-bounds r h, whole-there)) good ∙ rw (part-back, length_back, kind-back, fields_made r h, e)

-- a record is read back wherever it stands
pub record-back : (front rest : List ℕ) (r : Record) → T (in_range r)
    → record_at (front ++ record_bytes r ++ rest) (length front) ≡ Read.Record r (length front + length_of r)
record-back front rest r h =
    let e : length front + 0 ≡ length front = omega arith in
    let m = rw e at (moved-read (length front) (front ++ (record_bytes r ++ rest)) 0) in
    rw (append_assoc front (record_bytes r) rest) (m ∙ rw (drop-append_seam front (record_bytes r ++ rest), front-back r h rest))

-- .. and so are all of a file, as far as the reads suffice
walk-back : (rs : List Record) (n : ℕ) (front : List ℕ) → T (all_in_range rs) → length (file_of rs) ≤ n
    → walk_from n (front ++ file_of rs) (length front) ≡ record { records = rs; faulty = false }
unfolding walk_from
walk-back [] n front h k = nothing_left n (front ++ []) (length front) (rw (append-nil front) (omega arith))
walk-back (r ∷ rs) zero front h k =
    let (here, behind) = and_both (in_range r) (all_in_range rs) h in
    absurd (omega (arith, whole-there r here (file_of rs), length-bounds r here))
walk-back (r ∷ rs) (suc n) front h k =
    let (here, behind) = and_both (in_range r) (all_in_range rs) h in
    let s = rw (length-append (record_bytes r) (file_of rs), bytes-length r) at k in
    let later = walk-back rs n (front ++ record_bytes r) behind (omega (arith, s, length-bounds r here)) in
    rw (← append_assoc front (record_bytes r) (file_of rs), record-back front (file_of rs) r here)
    (ap (after r) (rw (length-append front (record_bytes r), bytes-length r) at later))

-- ---- what is read is written back

-- the record that a known kind and a part make has that kind and its widths; and the part's numbers, where it is in range
kind-made : (part : List ℕ) (kind : ℕ) → eqb (length_by kind part) 0 ≡ false → T (in_range (record_of kind part))
    → (kind_of (record_of kind part) ≡ kind) × (widths_of (record_of kind part) ≡ widths_by kind part) × (numbers_of (record_of kind part) ≡ fields_of (widths_by kind part) part)
kind-made part =
    of-kind
    (λ (kind : ℕ).
    T (in_range (record_of kind part)) →
    (kind_of (record_of kind part) ≡ kind) × (widths_of (record_of kind part) ≡ widths_by kind part) × (numbers_of (record_of kind part) ≡ fields_of (widths_by kind part) part))
    (λ h. (refl, refl, refl)) (λ h. (refl, refl, refl)) (λ h. (refl, refl, refl)) (λ h. (refl, refl, refl)) (λ h. (refl, refl, refl))
    (λ h. (refl, refl, numbers-read part (number part 0 2) (bands-counted (bands_fields part) h)))
    part

-- a part of bytes has bytes
part_small : (n m : ℕ) (file : List ℕ) → ((i : ℕ) → get_or file i 0 < 256) → (i : ℕ) → get_or (take n (drop m file)) i 0 < 256
part_small n m file small i =
    ⊎_elim
    (λ (inside : T (ltb i n)). rw (get_or-take n (drop m file) i 0 (omega (tests, inside)), get_or-drop m file i 0) (small (m + i)))
    (λ (outside : T (not (ltb i n))).
    rw (get_or-eq_default (take n (drop m file)) 0 {n = i} (rw (length-take n (drop m file)) (omega (tests, outside)))) (omega arith))
    (decided (ltb i n))

-- a good record in range: its header, its part and then all its bytes are written back
module _ (file : List ℕ) (place : ℕ) (small : (i : ℕ) → get_or file i 0 < 256) (f : is_faulty file place ≡ false)
    (ranged : T (in_range (record_of (kind_at file place) (part_at file place)))) where
  abbrev kind : ℕ
  kind = kind_at file place

  abbrev part : List ℕ
  part = part_at file place

  -- its length is that by its part
  known : (eqb (length_by kind part) 0 ≡ false) × (length_at file place ≡ length_by kind part)
  known =
      let l = rw (drop-drop header_length place file) at (length-is kind (drop place file) (length_at file place) (good-header file place f)) in
      let e = widths-part kind (drop (place + header_length) file) (length_at file place) l.2 in
      (rw e l.1, rw e l.2)

  made : (kind_of (record_of kind part) ≡ kind) × (widths_of (record_of kind part) ≡ widths_by kind part) × (numbers_of (record_of kind part) ≡ fields_of (widths_by kind part) part)
  made = kind-made part kind known.0 ranged

  header-written : header_bytes (record_of kind part) ≡ take header_length (drop place file)
  header-written =
      rw (made.0, made.1, ← known.1) (bytes-taken header_widths file place (omega (arith, good-record file place f)) small)

  part_length : length part ≡ layout_length (widths_by kind part)
  part_length =
      rw (length-take (length_at file place - header_length) (drop (place + header_length) file), length-drop (place + header_length) file)
      (omega (arith, good-record file place f, known.1, length-parts (widths_by kind part) known.0))

  part-written : field_bytes (record_of kind part) ≡ part
  part-written =
      rw (made.1, made.2)
      (bytes_back (widths_by kind part) part part_length (part_small (length_at file place - header_length) (place + header_length) file small))

  record-written : record_bytes (record_of kind part) ≡ take (length_at file place) (drop place file)
  unfolding record_bytes
  record-written =
      let more = length_at file place - header_length in
      let e : header_length + more ≡ length_at file place = omega (arith, good-record file place f) in
      ap (λ (header : List ℕ). header ++ field_bytes (record_of kind part)) header-written ∙
      rw (part-written, ← drop-drop header_length place file, ← take-add header_length more (drop place file), e)

-- what stands at a place, where it and all behind it is good and in range
next-written : (file : List ℕ) (place : ℕ) → ((i : ℕ) → get_or file i 0 < 256) → (w : ℕ → Walk)
    → ((next : ℕ) → place < next → (w next).faulty ≡ false → T (all_in_range (w next).records) → file_of (w next).records ≡ drop next file)
    → (go_on (record_at file place) w).faulty ≡ false → T (all_in_range (go_on (record_at file place) w).records) → file_of (go_on (record_at file place) w).records ≡ drop place file
next-written file place small w later g h = go (leb (length file) place) (is_faulty file place) refl refl where
  go : (a b : Bool) → leb (length file) place ≡ a → is_faulty file place ≡ b → file_of (go_on (record_at file place) w).records ≡ drop place file
  go true b p q = rw (read-end file place (leb-true _ _ p)) (sym (drop_of_length-le file {i = place} (leb-true _ _ p)))
  go false true p q = absurd (true≢false (rw (read-fault file place (leb-false _ _ p) q) at g))
  go false false p q =
      let next = place + length_at file place in
      let e = read-record file place (leb-false _ _ p) q in
      let (here, behind) = and_both (in_range (record_of (kind_at file place) (part_at file place))) (all_in_range (w next).records) (rw e at h) in
      let l = later next (omega (arith, good-record file place q)) (rw e at g) behind in
      rw (e, record-written file place small q here, l, ← drop-drop (length_at file place) place file) (take-append-drop (length_at file place) (drop place file))

-- .. and so what a walk reads from a place on, as far as the reads suffice
walk-written : (n : ℕ) (file : List ℕ) (place : ℕ) → ((i : ℕ) → get_or file i 0 < 256) → length file ≤ place + n
    → (walk_from n file place).faulty ≡ false → T (all_in_range (walk_from n file place).records) → file_of (walk_from n file place).records ≡ drop place file
unfolding walk_from
walk-written zero file place small h g ranged = sym (drop_of_length-le file {i = place} (omega arith))
walk-written (suc n) file place small h g ranged =
    next-written file place small (λ next. walk_from n file next) (λ next k later behind. walk-written n file next small (omega (arith, h, k)) later behind) g ranged

-- K1a: the file that is written of records, each in range, is good, and these records are read of it
pub file-back : (rs : List Record) → T (all_in_range rs) → walk (file_of rs) ≡ record { records = rs; faulty = false }
file-back rs h = walk-back rs (suc (length (file_of rs))) [] h (omega arith)

-- K1b: the records that are read of a good file, each in range, are written as that file, byte for byte
pub good-file-back : (file : List ℕ) → ((i : ℕ) → get_or file i 0 < 256) → (walk file).faulty ≡ false → T (all_in_range (walk file).records) → file_of (walk file).records ≡ file
good-file-back file small g h = walk-written (suc (length file)) file 0 small (omega arith) g h
