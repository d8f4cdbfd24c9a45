-- The lengths of records: what `is_length` lets pass, and how a header shows it as one number.
use Rattle.std.specs.Prelude.{ℕ, zero, suc, ◌+◌, ◌*◌, ◌-◌, ◌≤◌, ◌<◌, Bool, true, false, cond, not, ◌&&◌, ◌≡◌, refl, List, [], ◌∷◌, ◌++◌, eqb, ltb, take, drop, length as count_of}
use Rattle.std.proofs.Common.{true≢false, sym, length-drop, arith, eq-eqb, ne_eqb, eqb-true, lt-ltb, ltb-true}
use Rattle.std.proofs.lemmas.List.{drop-append-le}
pub use Rattle.records.specs.Fields.{length_bound}
use Rattle.records.specs.Fields.{number, header_length, counted_length, widths, row_widths, band_widths, layout_length, whole_length, kind_length, widths_by, length_by, is_length}
use Rattle.records.specs.Numbers.{number-front, number-taken}

-- a kind's length and the kind as one number of four bytes
abbrev pub head_of : ℕ → ℕ
head_of kind = kind_length kind + 65_536 * kind

-- what holds of each kind holds of every known one
pub of-known : (P : ℕ → Type 0) → P 1 → P 2 → P 3 → P 4 → P 5 → (kind : ℕ) → eqb (kind_length kind) 0 ≡ false → P kind
of-known P one two three four five kind h = go (eqb kind 1) (eqb kind 2) (eqb kind 3) (eqb kind 4) (eqb kind 5) refl refl refl refl refl where
  go : (a b c d e : Bool) → eqb kind 1 ≡ a → eqb kind 2 ≡ b → eqb kind 3 ≡ c → eqb kind 4 ≡ d → eqb kind 5 ≡ e → P kind
  go true b c d e p q r s t = rw (eqb-true kind 1 p) one
  go false true c d e p q r s t = rw (eqb-true kind 2 q) two
  go false false true d e p q r s t = rw (eqb-true kind 3 r) three
  go false false false true e p q r s t = rw (eqb-true kind 4 s) four
  go false false false false true p q r s t = rw (eqb-true kind 5 t) five
  go false false false false false p q r s t = absurd (true≢false (rw (p, q, r, s, t) at h))

-- every known kind has a field, and its length two bytes
pub known-length : (kind : ℕ) → eqb (kind_length kind) 0 ≡ false → (header_length < kind_length kind) × (kind_length kind < length_bound)
known-length =
    of-known (λ (kind : ℕ). (header_length < kind_length kind) × (kind_length kind < length_bound))
    (omega arith, omega arith) (omega arith, omega arith) (omega arith, omega arith) (omega arith, omega arith) (omega arith, omega arith)

-- .. and is its header's and its fields' together
pub length-parts : (ws : List ℕ) → eqb (whole_length ws) 0 ≡ false → whole_length ws ≡ header_length + layout_length ws
length-parts [] h = absurd (true≢false h)
length-parts (w ∷ ws) h = refl

rows-length : (count : ℕ) → layout_length (row_widths count) ≡ 16 + 8 * count
rows-length zero = refl
rows-length (suc n) = omega (arith, rows-length n)

-- kind 6 (02 K6): 22 bytes, and 8 for each row counted
pub bands-length : (count : ℕ) → whole_length (band_widths count) ≡ 22 + 8 * count
bands-length count = omega (arith, rows-length count)

pub bands-known : (count : ℕ) → eqb (whole_length (band_widths count)) 0 ≡ false
bands-known count = ne_eqb (whole_length (band_widths count)) 0 (λ e. omega (arith, e, bands-length count))

-- every other known kind has one length, whatever its part holds
pub one-length : (part : List ℕ) (kind : ℕ) → eqb (kind_length kind) 0 ≡ false → length_by kind part ≡ kind_length kind
one-length part = of-known (λ (kind : ℕ). length_by kind part ≡ kind_length kind) refl refl refl refl refl

-- what holds of each kind holds of every known one, kind 6 too
pub of-kind : (P : ℕ → Type 0) → P 1 → P 2 → P 3 → P 4 → P 5 → P 6 → (part : List ℕ) (kind : ℕ) → eqb (length_by kind part) 0 ≡ false → P kind
of-kind P one two three four five six part kind h = go (eqb kind 6) refl where
  go : (b : Bool) → eqb kind 6 ≡ b → P kind
  go true e = rw (eqb-true kind 6 e) six
  go false e = of-known P one two three four five kind (rw e at h)

-- .. every known one's fields go beyond the header
by-above : (part : List ℕ) (kind : ℕ) → eqb (length_by kind part) 0 ≡ false → header_length < length_by kind part
by-above part =
    of-kind (λ (kind : ℕ). header_length < length_by kind part)
    (omega arith) (omega arith) (omega arith) (omega arith) (omega arith) (omega (arith, bands-length (number part 0 2))) part

three : (a b c : Bool) → a && not b && c ≡ true → (a ≡ true) × (b ≡ false) × (c ≡ true)
three true true c h = absurd (true≢false (sym h))
three true false c h = (refl, refl, h)
three false b c h = absurd (true≢false (sym h))

-- what is_length says: two bytes hold the length, the kind is known, and it is the length of its fields
pub length-is : (kind : ℕ) (bytes : List ℕ) (length : ℕ) → is_length kind bytes length ≡ true
    → (length < length_bound) × (eqb (length_by kind (drop header_length bytes)) 0 ≡ false) × (length ≡ length_by kind (drop header_length bytes))
unfolding is_length
length-is kind bytes length h =
    let own = length_by kind (drop header_length bytes) in
    let n = three (ltb length length_bound) (eqb own 0) (eqb length own) h in
    (ltb-true _ _ n.0, n.1, eqb-true _ _ n.2)

-- .. and what makes it
pub length-passes : (kind : ℕ) (bytes : List ℕ) (length : ℕ) → length < length_bound → eqb (length_by kind (drop header_length bytes)) 0 ≡ false
    → length ≡ length_by kind (drop header_length bytes) → is_length kind bytes length ≡ true
unfolding is_length
length-passes kind bytes length short known e =
    rw (lt-ltb length length_bound short, known) (eq-eqb length (length_by kind (drop header_length bytes)) e)

pub length_above : (kind : ℕ) (bytes : List ℕ) (length : ℕ) → is_length kind bytes length ≡ true → header_length < length
length_above kind bytes length h =
    let n = length-is kind bytes length h in
    rw n.2 (by-above (drop header_length bytes) kind n.1)

pub length-below : (kind : ℕ) (bytes : List ℕ) (length : ℕ) → is_length kind bytes length ≡ true → length < length_bound
length-below kind bytes length h = (length-is kind bytes length h).0

-- more bytes behind change nothing where the row count is there
pub length_front : (kind : ℕ) (bytes more : List ℕ) (length : ℕ) → counted_length ≤ count_of bytes → is_length kind (bytes ++ more) length ≡ is_length kind bytes length
unfolding is_length
length_front kind bytes more length h =
    rw (drop-append-le header_length bytes more (omega arith), number-front 2 (drop header_length bytes) more 0 (rw (length-drop header_length bytes) (omega arith)))

-- a known kind's own
pub length-known : (kind : ℕ) (bytes : List ℕ) → eqb (kind_length kind) 0 ≡ false → is_length kind bytes (kind_length kind) ≡ true
length-known kind bytes known =
    let e = one-length (drop header_length bytes) kind known in
    length-passes kind bytes (kind_length kind) (known-length kind known).1 (rw e known) (sym e)

not-passed : (a : Bool) → (a ≡ true → ⊥) → a ≡ false
not-passed true f = absurd (f refl)
not-passed false f = refl

-- where the kind is not 6, the bytes are not looked at
pub length-any : (kind : ℕ) (bytes other : List ℕ) (length : ℕ) → eqb kind 6 ≡ false → is_length kind bytes length ≡ is_length kind other length
unfolding is_length
length-any kind bytes other length e = rw e

-- a header that is no known kind's
pub length-other : (kind : ℕ) (bytes : List ℕ) (length : ℕ) {head : ℕ} → head ≡ length + 65_536 * kind → eqb kind 6 ≡ false
    → ((k : ℕ) → eqb (kind_length k) 0 ≡ false → head ≡ head_of k → ⊥) → is_length kind bytes length ≡ false
length-other kind bytes length {head} h six other = not-passed (is_length kind bytes length) never where
  never : is_length kind bytes length ≡ true → ⊥
  never passed =
      let n = length-is kind bytes length passed in
      let known : eqb (kind_length kind) 0 ≡ false = rw six at n.1 in
      let e : length ≡ kind_length kind = rw six at n.2 in
      other kind known (omega (arith, h, e))

-- kind 6 with a length that is not that of its rows
pub length-misfit : (bytes : List ℕ) (length : ℕ) → (length ≡ whole_length (band_widths (number (drop header_length bytes) 0 2)) → ⊥) → is_length 6 bytes length ≡ false
length-misfit bytes length misfit = not-passed (is_length 6 bytes length) (λ passed. misfit (length-is 6 bytes length passed).2)

-- .. or too short for a row count
pub length-low : (bytes : List ℕ) (length : ℕ) → length < counted_length → is_length 6 bytes length ≡ false
length-low bytes length h = length-misfit bytes length (λ e. omega (arith, h, e, bands-length (number (drop header_length bytes) 0 2)))

-- the widths by the record's part are those by all that stands behind its header
pub widths-part : (kind : ℕ) (bytes : List ℕ) (n : ℕ) → n ≡ length_by kind bytes → widths_by kind (take (n - header_length) bytes) ≡ widths_by kind bytes
widths-part kind bytes n e = go (eqb kind 6) e where
  go : (b : Bool) → n ≡ whole_length (cond b (band_widths (number bytes 0 2)) (widths kind))
      → cond b (band_widths (number (take (n - header_length) bytes) 0 2)) (widths kind) ≡ cond b (band_widths (number bytes 0 2)) (widths kind)
  go true l = rw (number-taken 2 (n - header_length) bytes 0 (omega (arith, l, bands-length (number bytes 0 2))))
  go false l = refl
