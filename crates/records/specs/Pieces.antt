-- A file that comes in pieces: what is read of its front part is read of the whole.
use Rattle.std.specs.Prelude.{ℕ, ◌+◌, ◌-◌, ◌≤◌, ◌<◌, Bool, true, false, cond, not, ◌||◌, ◌&&◌, ◌≡◌, refl, List, ◌++◌, eqb, leb, ltb, length, drop}
use Rattle.std.proofs.Common.{true≢false, sym, ◌∙◌, ap, length-append, length-drop, drop-drop, arith, le-ltb, lt-ltb, ltb-true, ltb-false, leb-true, leb-false, eqb-true}
use Rattle.std.proofs.lemmas.List.{take-append-le, drop-append-le}
use Rattle.lists.specs.Tests.{neither}
use Rattle.records.specs.declared.{kinds.Record.Record, Piece.Piece, kinds.Header.Header}
use Rattle.records.specs.Fields.{header_length, length_bound, counted_length, is_length, record_of}
use Rattle.records.specs.Numbers.{number-front, number-moved}
use Rattle.records.specs.Lengths.{length-below, length_front, length-any, length-low}
use Rattle.records.specs.Walk.{Read, length_at, kind_at, part_at, is_header, is_cut, is_faulty, record_at}
use Rattle.records.specs.Headers.{is_open, open_is, open-cut, header_at, header_read, read-header}
use Rattle.records.specs.Reads.{faulty-whole, read-end, read-fault, read-record, good-record}

-- the header isn't whole yet, or can't be judged yet, or it is good; and its record isn't whole
abbrev pub needs_more : List ℕ → ℕ → Bool
needs_more bytes place = ltb (length bytes) (place + header_length) || (is_open bytes place || is_header bytes place) && is_cut bytes place

-- what waits for more is shorter than a record can be
pub waits-short : (bytes : List ℕ) (place : ℕ) → needs_more bytes place ≡ true → length bytes < place + length_bound
waits-short bytes place h =
    go (ltb (length bytes) (place + header_length)) (is_open bytes place) (is_header bytes place) (is_cut bytes place) refl refl refl refl h where
      go : (a o b c : Bool) → ltb (length bytes) (place + header_length) ≡ a → is_open bytes place ≡ o → is_header bytes place ≡ b → is_cut bytes place ≡ c
          → a || (o || b) && c ≡ true → length bytes < place + length_bound
      go true o b c p s q r e = omega (arith, ltb-true (length bytes) (place + header_length) p)
      go false true b c p s q r e = omega (arith, (open_is bytes place s).2)
      go false false true true p s q r e =
          omega (arith, ltb-true (length bytes) (place + length_at bytes place) r, length-below (kind_at bytes place) (drop place bytes) (length_at bytes place) q)
      go false false true false p s q r e = absurd (true≢false (sym e))
      go false false false c p s q r e = absurd (true≢false (sym e))

-- of a file that won't grow
abbrev pub piece_of : Read → Piece
piece_of (Read.Record r next) = Piece.Record r next
piece_of Read.Fault = Piece.Fault
piece_of Read.End = Piece.End

-- what stands at a place of a piece: it waits where more bytes could decide, and is read as of the whole file otherwise
unfoldable pub piece_at : List ℕ → ℕ → Bool → Piece
piece_at bytes place ended = cond (not ended && needs_more bytes place) Piece.Waits (piece_of (record_at bytes place))

-- by what a whole header says
abbrev pub header_piece : Bool → Header → Piece
header_piece ended (Header.Record r next) = Piece.Record r next
header_piece ended Header.Cut = cond ended Piece.Fault Piece.Waits
header_piece ended Header.Bad = Piece.Fault

-- the header isn't whole, and more can come
pub piece-waits : (bytes : List ℕ) (place : ℕ) → length bytes < place + header_length → Piece.Waits ≡ piece_at bytes place false
unfolding piece_at
piece-waits bytes place h = rw (lt-ltb _ _ h)

-- nothing more can come
pub piece-ended : (bytes : List ℕ) (place : ℕ) {r : Read} → record_at bytes place ≡ r → piece_of r ≡ piece_at bytes place true
unfolding piece_at
piece-ended bytes place e = sym (ap piece_of e)

pub piece-header : (bytes : List ℕ) (place : ℕ) (ended : Bool) → place + header_length ≤ length bytes
    → header_piece ended (header_at bytes place) ≡ piece_at bytes place ended
unfolding piece_at header_at
piece-header bytes place ended h =
    rw (le-ltb _ _ h, sym (read-header bytes place h))
    (go ended (is_open bytes place || is_header bytes place) (is_cut bytes place) (record_of (kind_at bytes place) (part_at bytes place)) (place + length_at bytes place)) where
      go : (e a b : Bool) (r : Record) (next : ℕ)
          → header_piece e (cond a (cond b Header.Cut (Header.Record r next)) Header.Bad) ≡
          cond (not e && (a && b)) Piece.Waits (piece_of (header_read (cond a (cond b Header.Cut (Header.Record r next)) Header.Bad)))
      go true true true r next = refl
      go true true false r next = refl
      go true false b r next = refl
      go false true true r next = refl
      go false true false r next = refl
      go false false b r next = refl

-- a header that is whole, and judged
header-front : (bytes more : List ℕ) (place : ℕ) → place + header_length ≤ length bytes → is_open bytes place ≡ false → is_header (bytes ++ more) place ≡ is_header bytes place
header-front bytes more place h k =
    rw (number-front 2 bytes more place (omega arith), number-front 2 bytes more (place + 2) (omega arith), drop-append-le place bytes more (omega arith))
    (go (eqb (kind_at bytes place) 6) (leb counted_length (length_at bytes place)) refl refl) where
      go : (a b : Bool) → eqb (kind_at bytes place) 6 ≡ a → leb counted_length (length_at bytes place) ≡ b
          → is_length (kind_at bytes place) (drop place bytes ++ more) (length_at bytes place) ≡ is_length (kind_at bytes place) (drop place bytes) (length_at bytes place)
      go false b p q = length-any (kind_at bytes place) (drop place bytes ++ more) (drop place bytes) (length_at bytes place) p
      go true false p q =
          let l = leb-false counted_length (length_at bytes place) q in
          rw (eqb-true (kind_at bytes place) 6 p) (length-low (drop place bytes ++ more) (length_at bytes place) l ∙ sym (length-low (drop place bytes) (length_at bytes place) l))
      go true true p q =
          length_front (kind_at bytes place) (drop place bytes) more (length_at bytes place)
          (rw (length-drop place bytes) (omega (arith, ltb-false (length bytes) (place + counted_length) (rw (p, q) at k))))

part-front : (bytes more : List ℕ) (place : ℕ) → header_length < length_at bytes place → place + length_at bytes place ≤ length bytes
    → part_at (bytes ++ more) place ≡ part_at bytes place
part-front bytes more place h k =
    rw (number-front 2 bytes more place (omega arith), drop-append-le (place + header_length) bytes more (omega arith))
    (take-append-le (length_at bytes place - header_length) (drop (place + header_length) bytes) more (rw (length-drop (place + header_length) bytes) (omega arith)))

cut-front : (bytes more : List ℕ) (place : ℕ) → header_length < length_at bytes place → place + length_at bytes place ≤ length bytes
    → is_cut (bytes ++ more) place ≡ false
cut-front bytes more place h k =
    le-ltb (length (bytes ++ more)) (place + length_at (bytes ++ more) place) (rw (length-append bytes more, number-front 2 bytes more place (omega arith)) (omega arith))

-- more bytes don't change what is whole, or faulty already
pub settled-read : (bytes : List ℕ) (place : ℕ) → needs_more bytes place ≡ false → (more : List ℕ) → record_at (bytes ++ more) place ≡ record_at bytes place
settled-read bytes place h more = go (is_header bytes place) (is_cut bytes place) refl refl n.2 where
  judged : (o b c : Bool) → (o ≡ true → c ≡ true) → (o || b) && c ≡ false → (o ≡ false) × (b && c ≡ false)
  judged true b true f e = absurd (true≢false e)
  judged true b false f e = absurd (true≢false (sym (f refl)))
  judged false b c f e = (refl, e)

  n : (ltb (length bytes) (place + header_length) ≡ false) × (is_open bytes place ≡ false) × (is_header bytes place && is_cut bytes place ≡ false)
  n =
      let t = neither (ltb (length bytes) (place + header_length)) ((is_open bytes place || is_header bytes place) && is_cut bytes place) h in
      let j = judged (is_open bytes place) (is_header bytes place) (is_cut bytes place) (open-cut bytes place) t.1 in
      (t.0, j.0, j.1)

  whole : place + header_length ≤ length bytes
  whole = ltb-false (length bytes) (place + header_length) n.0

  whole' : place + header_length ≤ length (bytes ++ more)
  whole' = rw (length-append bytes more) (omega (arith, whole))

  go : (a b : Bool) → is_header bytes place ≡ a → is_cut bytes place ≡ b → a && b ≡ false → record_at (bytes ++ more) place ≡ record_at bytes place
  go true true p q e = absurd (true≢false e)
  go false b p q e =
      read-fault (bytes ++ more) place (omega (arith, whole')) (sym (faulty-whole (bytes ++ more) place whole') ∙ rw (header-front bytes more place whole n.1, p)) ∙
      sym (read-fault bytes place (omega (arith, whole)) (sym (faulty-whole bytes place whole) ∙ rw (p)))
  go true false p q e =
      let f : is_faulty bytes place ≡ false = sym (faulty-whole bytes place whole) ∙ rw (p, q) in
      let g = good-record bytes place f in
      let f' : is_faulty (bytes ++ more) place ≡ false = sym (faulty-whole (bytes ++ more) place whole') ∙
      rw (header-front bytes more place whole n.1, p, cut-front bytes more place g.0 g.1) in
      read-record (bytes ++ more) place (omega (arith, whole')) f' ∙
      rw (part-front bytes more place g.0 g.1, number-front 2 bytes more place (omega (arith, whole)), number-front 2 bytes more (place + 2) (omega (arith, whole)))
      (sym (read-record bytes place (omega (arith, whole)) f))

-- a read with its place counted from k bytes before
abbrev pub moved_by : ℕ → Read → Read
moved_by k (Read.Record r next) = Read.Record r (k + next)
moved_by k Read.Fault = Read.Fault
moved_by k Read.End = Read.End

further : (k place n : ℕ) → k + (place + n) ≡ k + place + n
further k place n = omega arith

test-moved : (k l x : ℕ) → k ≤ l → ltb (l - k) x ≡ ltb l (k + x)
test-moved k l x h = go (ltb l (k + x)) refl where
  go : (b : Bool) → ltb l (k + x) ≡ b → ltb (l - k) x ≡ b
  go true e = let t = ltb-true l (k + x) e in lt-ltb (l - k) x (omega (arith, t))
  go false e = let t = ltb-false l (k + x) e in le-ltb (l - k) x (omega (arith, t))

faulty-moved : (k : ℕ) (bytes : List ℕ) (place : ℕ) → k ≤ length bytes → is_faulty (drop k bytes) place ≡ is_faulty bytes (k + place)
faulty-moved k bytes place h =
    rw (
      length-drop k bytes,
      number-moved 2 k bytes place,
      number-moved 2 k bytes (place + 2),
      drop-drop place k bytes,
      test-moved k (length bytes) (place + header_length) h,
      test-moved k (length bytes) (place + length_at bytes (k + place)) h,
      further k place 2,
      further k place header_length,
      further k place (length_at bytes (k + place)),
    )

part_moved : (k : ℕ) (bytes : List ℕ) (place : ℕ) → part_at (drop k bytes) place ≡ part_at bytes (k + place)
part_moved k bytes place = rw (number-moved 2 k bytes place, drop-drop (place + header_length) k bytes, further k place header_length)

-- what is read behind the first k bytes is what is read of them all, k places on
pub moved-read : (k : ℕ) (bytes : List ℕ) (place : ℕ) → record_at bytes (k + place) ≡ moved_by k (record_at (drop k bytes) place)
moved-read k bytes place = go (leb (length (drop k bytes)) place) (is_faulty (drop k bytes) place) refl refl where
  inside : leb (length (drop k bytes)) place ≡ false → (place < length (drop k bytes)) × (k + place < length bytes)
  inside e =
      let t = leb-false (length (drop k bytes)) place e in
      (t, omega (arith, t, length-drop k bytes))

  go : (a b : Bool) → leb (length (drop k bytes)) place ≡ a → is_faulty (drop k bytes) place ≡ b → record_at bytes (k + place) ≡ moved_by k (record_at (drop k bytes) place)
  go true b p q =
      let t = leb-true (length (drop k bytes)) place p in
      read-end bytes (k + place) (omega (arith, t, length-drop k bytes)) ∙ sym (ap (moved_by k) (read-end (drop k bytes) place t))
  go false true p q =
      let t = inside p in
      read-fault bytes (k + place) t.1 (sym (faulty-moved k bytes place (omega (arith, t))) ∙ q) ∙ sym (ap (moved_by k) (read-fault (drop k bytes) place t.0 q))
  go false false p q =
      let t = inside p in
      read-record bytes (k + place) t.1 (sym (faulty-moved k bytes place (omega (arith, t))) ∙ q) ∙
      sym
      (ap (moved_by k) (read-record (drop k bytes) place t.0 q) ∙
      rw (part_moved k bytes place, number-moved 2 k bytes place, number-moved 2 k bytes (place + 2), further k place 2, further k place (length_at bytes (k + place))))
