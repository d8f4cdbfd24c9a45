-- What a whole header says: 01 "Session file". Its length and its kind are judged as one number.
use Rattle.std.specs.Prelude.{ℕ, suc, ◌+◌, ◌-◌, ◌/◌, ◌%◌, ◌≤◌, ◌<◌, Bool, true, cond, not, ◌&&◌, ◌||◌, ◌≡◌, refl, List, leb, ltb, length, take, drop, get_or}
use Rattle.std.proofs.Math.Bool.{false}
use Rattle.std.proofs.Common.{true≢false, sym, ◌∙◌, arith}
use Rattle.std.proofs.Math.Dec.{eqb}
use borrow.Author.Tests.{leb-true, ltb-true, eqb-true, le-leb, lt-leb, lt-ltb, le-ltb, ne_eqb}
use Rattle.terms.specs.declared.parameters.{Start.Start}
use Rattle.records.specs.declared.{kinds.Record.Record, kinds.Header.Header}
use Rattle.records.specs.Fields.{number, header_length, length_bound, counted_length, band_widths, whole_length, kind_length, bands_fields, record_of}
use Rattle.records.specs.Numbers.{number-four, number-moved}
use Rattle.records.specs.Walk.{Read, length_at, kind_at, part_at, is_header, is_cut, record_at}
use Rattle.records.specs.Lengths.{head_of, known-length, bands-length, bands-known, length-passes, length-known, length-other, length-misfit}
use Rattle.records.specs.Reads.{faulty-whole}

-- more bytes are needed to judge the header: kind 6, whose length has room for the row count, and the count isn't there yet (02 K6)
abbrev pub is_open : List ℕ → ℕ → Bool
is_open bytes place = eqb (kind_at bytes place) 6 && leb counted_length (length_at bytes place) && ltb (length bytes) (place + counted_length)

-- its record, which may be cut; or no known kind with that kind's length
unfoldable pub header_at : List ℕ → ℕ → Header
header_at bytes place =
    cond (is_open bytes place || is_header bytes place)
    (cond (is_cut bytes place) Header.Cut (Header.Record (record_of (kind_at bytes place) (part_at bytes place)) (place + length_at bytes place)))
    Header.Bad

-- a whole header at a place, and it is a kind's
pub record Headed (kind : ℕ) (bytes : List ℕ) (place : ℕ) : Type 0 where
  pub whole : place + header_length ≤ length bytes
  pub head : number bytes place 4 ≡ head_of kind

-- a whole header at a place, and it is that of no kind of one length
pub record Unheaded (head : ℕ) (bytes : List ℕ) (place : ℕ) : Type 0 where
  pub whole : place + header_length ≤ length bytes
  pub says : head ≡ number bytes place 4
  pub other : (kind : ℕ) → eqb (kind_length kind) 0 ≡ false → head ≡ head_of kind → ⊥

all_three : (a b c : Bool) → a && b && c ≡ true → (a ≡ true) × (b ≡ true) × (c ≡ true)
all_three true true c h = (refl, refl, h)
all_three true false c h = absurd (true≢false (sym h))
all_three false b c h = absurd (true≢false (sym h))

-- what such a header says
pub open_is : (bytes : List ℕ) (place : ℕ) → is_open bytes place ≡ true
    → (kind_at bytes place ≡ 6) × (counted_length ≤ length_at bytes place) × (length bytes < place + counted_length)
open_is bytes place h =
    let n = all_three (eqb (kind_at bytes place) 6) (leb counted_length (length_at bytes place)) (ltb (length bytes) (place + counted_length)) h in
    (eqb-true _ _ n.0, leb-true _ _ n.1, ltb-true _ _ n.2)

-- .. so that its record is cut
pub open-cut : (bytes : List ℕ) (place : ℕ) → is_open bytes place ≡ true → is_cut bytes place ≡ true
open-cut bytes place h = let n = open_is bytes place h in lt-ltb (length bytes) (place + length_at bytes place) (omega (arith, n.1, n.2))

-- of a file that won't grow
abbrev pub header_read : Header → Read
header_read (Header.Record r next) = Read.Record r next
header_read Header.Cut = Read.Fault
header_read Header.Bad = Read.Fault

pub read-header : (bytes : List ℕ) (place : ℕ) → place + header_length ≤ length bytes → header_read (header_at bytes place) ≡ record_at bytes place
unfolding record_at header_at
read-header bytes place h =
    rw (lt-leb (length bytes) place (omega arith), sym (faulty-whole bytes place h))
    (go (is_open bytes place) (is_header bytes place) (is_cut bytes place) (record_of (kind_at bytes place) (part_at bytes place)) (place + length_at bytes place) (open-cut bytes place)) where
      go : (o a b : Bool) (r : Record) (next : ℕ) → (o ≡ true → b ≡ true)
          → header_read (cond (o || a) (cond b Header.Cut (Header.Record r next)) Header.Bad) ≡ cond (not a || b) Read.Fault (Read.Record r next)
      go true a false r next f = absurd (true≢false (sym (f refl)))
      go true true true r next f = refl
      go true false true r next f = refl
      go false false b r next f = refl
      go false true true r next f = refl
      go false true false r next f = refl

length-small : (bytes : List ℕ) (place : ℕ) → ((i : ℕ) → get_or bytes i 0 < 256) → length_at bytes place < length_bound
unfolding number
length-small bytes place h = omega (arith, h place, h (suc place))

either : (a b : Bool) → b ≡ true → a || b ≡ true
either true b h = refl
either false b h = h

never : (a : Bool) → a && false ≡ false
never true = refl
never false = refl

-- a header that is good: its record is cut, or is read
module _ (bytes : List ℕ) (place : ℕ) (good : is_header bytes place ≡ true) where
  judged-cut : length bytes < place + length_at bytes place → Header.Cut ≡ header_at bytes place
  unfolding header_at
  judged-cut c = rw (either (is_open bytes place) (is_header bytes place) good, lt-ltb (length bytes) (place + length_at bytes place) c)

  judged-record : place + length_at bytes place ≤ length bytes
      → Header.Record (record_of (kind_at bytes place) (part_at bytes place)) (place + length_at bytes place) ≡ header_at bytes place
  unfolding header_at
  judged-record w = rw (either (is_open bytes place) (is_header bytes place) good, le-ltb (length bytes) (place + length_at bytes place) w)

-- a head that is that of a kind of one length
module _ (bytes : List ℕ) (place : ℕ) (small : (i : ℕ) → get_or bytes i 0 < 256) (kind : ℕ) (known : eqb (kind_length kind) 0 ≡ false)
    {head : ℕ} (n : head ≡ number bytes place 4) (h : head ≡ head_of kind) where
  halves : (kind_at bytes place ≡ kind) × (length_at bytes place ≡ kind_length kind)
  halves =
      let s = length-small bytes place small in
      let l = known-length kind known in
      let e = number-four bytes place in
      (omega (arith, s, l, e), omega (arith, s, l, e))

  good : is_header bytes place ≡ true
  good = rw (halves.0, halves.1) (length-known kind (drop place bytes) known)

  pub header-cut : length bytes - place < kind_length kind → Header.Cut ≡ header_at bytes place
  header-cut c = judged-cut bytes place good (rw halves.1 (omega (arith, c)))

  pub header-record : kind_length kind ≤ length bytes - place → {r : Record}
      → r ≡ record_of kind (take (place + kind_length kind - (place + header_length)) (drop (place + header_length) bytes))
      → Header.Record r (place + kind_length kind) ≡ header_at bytes place
  header-record w m =
      let e : place + kind_length kind - (place + header_length) ≡ kind_length kind - header_length = omega arith in
      let t : place + length_at bytes place ≤ length bytes = rw halves.1 (omega (arith, known-length kind known, w)) in
      rw (m, e) (rw (halves.0, halves.1) at (judged-record bytes place good t))

-- any other head: its two halves
module _ (bytes : List ℕ) (place : ℕ) (small : (i : ℕ) → get_or bytes i 0 < 256) {head : ℕ} (n : head ≡ number bytes place 4) where
  pub split : (kind_at bytes place ≡ head / 65_536) × (length_at bytes place ≡ head % 65_536)
  split =
      let s = length-small bytes place small in
      let e = number-four bytes place in
      (omega (arith, s, e), omega (arith, s, e))

  -- no known kind
  pub header-bad : (head / 65_536 ≡ 6 → ⊥) → ((kind : ℕ) → eqb (kind_length kind) 0 ≡ false → head ≡ head_of kind → ⊥) → Header.Bad ≡ header_at bytes place
  unfolding header_at
  header-bad kind other =
      let e : eqb (kind_at bytes place) 6 ≡ false = ne_eqb _ _ (λ same. kind (sym split.0 ∙ same)) in
      rw (length-other (kind_at bytes place) (drop place bytes) (length_at bytes place) (omega (arith, n, number-four bytes place)) e other, e)

  -- kind 6 (02 K6)
  module _ (bands : head / 65_536 ≡ 6) where
    six : kind_at bytes place ≡ 6
    six = split.0 ∙ bands

    count : number (drop header_length (drop place bytes)) 0 2 ≡ number bytes (place + header_length) 2
    count = number-moved 2 header_length (drop place bytes) 0 ∙ number-moved 2 place bytes header_length

    -- a length that is not that of its rows
    misfit : (head % 65_536 ≡ whole_length (band_widths (number bytes (place + header_length) 2)) → ⊥) → is_header bytes place ≡ false
    misfit f = rw six (length-misfit (drop place bytes) (length_at bytes place) (rw (count, split.1) f))

    -- too short for a row count
    pub bands-short : head % 65_536 < counted_length → Header.Bad ≡ header_at bytes place
    unfolding header_at
    bands-short s =
        let i = misfit (λ e. omega (arith, s, e, bands-length (number bytes (place + header_length) 2))) in
        let l = lt-leb counted_length (length_at bytes place) (omega (arith, s, split.1)) in
        rw (i, six, l)

    -- long enough for one, which isn't there yet
    pub bands-open : counted_length ≤ head % 65_536 → length bytes - place < counted_length → Header.Cut ≡ header_at bytes place
    unfolding header_at
    bands-open long short =
        let l = le-leb counted_length (length_at bytes place) (omega (arith, long, split.1)) in
        let t = lt-ltb (length bytes) (place + counted_length) (omega (arith, short)) in
        let c = lt-ltb (length bytes) (place + length_at bytes place) (omega (arith, long, split.1, short)) in
        rw (six, l, t, c)

    pub bands-misfit : counted_length ≤ length bytes - place → (head % 65_536 ≡ whole_length (band_widths (number bytes (place + header_length) 2)) → ⊥)
        → Header.Bad ≡ header_at bytes place
    unfolding header_at
    bands-misfit there f =
        let t = le-ltb (length bytes) (place + counted_length) (omega (arith, there)) in
        rw (misfit f, six, t, never (leb counted_length (length_at bytes place)))

    -- the length of its rows
    module _ (fit : head % 65_536 ≡ whole_length (band_widths (number bytes (place + header_length) 2))) where
      bands-good : is_header bytes place ≡ true
      bands-good =
          rw six
          (length-passes 6 (drop place bytes) (length_at bytes place) (length-small bytes place small)
          (bands-known (number (drop header_length (drop place bytes)) 0 2))
          (rw count (split.1 ∙ fit)))

      pub bands-cut : length bytes - place < head % 65_536 → Header.Cut ≡ header_at bytes place
      bands-cut c = judged-cut bytes place bands-good (omega (arith, c, split.1))

      pub bands-record : head % 65_536 ≤ length bytes - place → {s : Start}
          → s ≡ bands_fields (take (place + head % 65_536 - (place + header_length)) (drop (place + header_length) bytes))
          → Header.Record (Record.Bands s) (place + head % 65_536) ≡ header_at bytes place
      bands-record w m =
          let e : place + head % 65_536 - (place + header_length) ≡ head % 65_536 - header_length = omega arith in
          let t : place + length_at bytes place ≤ length bytes = omega (arith, w, split.1, fit, bands-length (number bytes (place + header_length) 2)) in
          rw (m, e) (rw (six, split.1) at (judged-record bytes place bands-good t))
