-- Tables of steps in bytes: 02 K6. The rows of a start by bands as its layout has them.
use Rattle.std.specs.Prelude.{ℕ, zero, suc, ◌+◌, ◌*◌, ◌^◌, ◌<◌, Bool, true, false, cond, ◌&&◌, ◌≡◌, refl, List, [], ◌∷◌, ◌++◌, T, leb, ltb, eqb, ◌-◌, length, take, drop, get_or, map}
use Rattle.std.specs.List.{range_with_len}
use Rattle.std.proofs.Common.{sym, ◌∙◌, ap, arith, eqb→eq, ltb-true, ltb-false, get_or-drop, ext_get_or}
use Rattle.std.proofs.lemmas.List.FromFn.{get_or-map-range_with_len}
use Rattle.lists.specs.Choice.{all}
use Rattle.lists.specs.Tests.{tests, and_both}
use Rattle.terms.specs.Bounds.{min_rows, max_rows}
use Rattle.terms.specs.Kinds.{within, is_price, is_step}
use Rattle.terms.specs.Tables.{all_rows, is_row, no_row, is_no_row, is_table}
use Rattle.terms.proofs.TableLaws.{table-parts}
use Rattle.terms.specs.declared.parameters.{Start.Start}
use Rattle.terms.specs.declared.tables.{Row.Row}
use Rattle.records.specs.declared.{kinds.Record.Record}
use Rattle.records.specs.Fields.{number, row_widths, fields_from, bands_by}
use Rattle.records.specs.Bytes.{row_numbers, numbers_of}
use Rattle.records.specs.Layout.{Fit}

-- five tests that pass together
pub five : (a b c d e : Bool) → T (a && b && c && d && e) → T a × T b × T c × T d × T e
five true true true true e h = (tt, tt, tt, tt, h)
five true true true false e h = absurd h
five true true false d e h = absurd h
five true false c d e h = absurd h
five false b c d e h = absurd h

-- a number of a range has room, where the highest has
pub fits : (low high x width : ℕ) → T (within low high x) → T (ltb high (256 ^ width)) → x < 256 ^ width
fits low high x width h k = let w = and_both (leb low x) (leb x high) h in omega (tests, w)

-- ---- a table

-- a row's numbers have room
pub row_fits : (r : Row) → T (is_row r) → (r.lowest < 256 ^ 4) × (r.step < 256 ^ 4)
row_fits r h = let (lowest, step) = and_both (is_price r.lowest) (is_step r.step) h in (fits _ _ _ 4 lowest tt, fits _ _ _ 4 step tt)

too_many : (n : ℕ) → T (within min_rows max_rows (suc (suc (suc (suc (suc (suc (suc (suc (suc n)))))))))) → ⊥
too_many n h =
    let m = suc (suc (suc (suc (suc (suc (suc (suc (suc n)))))))) in
    let k = and_both (leb min_rows m) (leb m max_rows) h in
    omega (tests, k.1)

-- what holds of each count from 1 to 8 holds of every count of a table
pub of-count : (P : ℕ → Type 0) → P 1 → P 2 → P 3 → P 4 → P 5 → P 6 → P 7 → P 8 → (count : ℕ) → T (within min_rows max_rows count) → P count
of-count P a b c d e f g h zero k = absurd k
of-count P a b c d e f g h (suc zero) k = a
of-count P a b c d e f g h (suc (suc zero)) k = b
of-count P a b c d e f g h (suc (suc (suc zero))) k = c
of-count P a b c d e f g h (suc (suc (suc (suc zero)))) k = d
of-count P a b c d e f g h (suc (suc (suc (suc (suc zero))))) k = e
of-count P a b c d e f g h (suc (suc (suc (suc (suc (suc zero)))))) k = f
of-count P a b c d e f g h (suc (suc (suc (suc (suc (suc (suc zero))))))) k = g
of-count P a b c d e f g h (suc (suc (suc (suc (suc (suc (suc (suc zero)))))))) k = h
of-count P a b c d e f g h (suc (suc (suc (suc (suc (suc (suc (suc (suc n))))))))) k = absurd (too_many n k)

-- ---- its numbers, any number of rows

-- a number for each width
pub rows-count : (n : ℕ) (rs : List Row) (later : List ℕ) → length later ≡ 4 → length (row_numbers n rs ++ later) ≡ length (row_widths n)
rows-count zero rs later h = h
rows-count (suc n) [] later h = ap (λ (k : ℕ). suc (suc k)) (rows-count n [] later h)
rows-count (suc n) (r ∷ rs) later h = ap (λ (k : ℕ). suc (suc k)) (rows-count n rs later h)

zeros-fit : (n : ℕ) (later : List ℕ) → Fit (row_widths zero) later → Fit (row_widths n) (row_numbers n [] ++ later)
zeros-fit zero later h = h
zeros-fit (suc n) later h = (omega arith, (omega arith, zeros-fit n later h))

-- .. each with room
pub rows_fit : (n : ℕ) (rs : List Row) (later : List ℕ) → T (all is_row (take n rs)) → Fit (row_widths zero) later → Fit (row_widths n) (row_numbers n rs ++ later)
rows_fit zero rs later h k = k
rows_fit (suc n) [] later h k = zeros-fit (suc n) later k
rows_fit (suc n) (r ∷ rs) later h k =
    let (here, behind) = and_both (is_row r) (all is_row (take n rs)) h in
    let (lowest, step) = row_fits r here in
    (lowest, (step, rows_fit n rs later behind k))

-- ---- 1 to 8 rows, read and written

-- the fields by places are those of the layout
pub numbers-read : (part : List ℕ) (count : ℕ) → T (within min_rows max_rows count)
    → numbers_of (Record.Bands (bands_by part count)) ≡ count ∷ fields_from (row_widths count) part 2
numbers-read part =
    of-count (λ (count : ℕ). numbers_of (Record.Bands (bands_by part count)) ≡ count ∷ fields_from (row_widths count) part 2)
    refl refl refl refl refl refl refl refl

-- a start from its fields' numbers, where so many rows are counted
abbrev row_from : ℕ → List ℕ → ℕ → Row
row_from count ns index = cond (ltb index count) (record { lowest = get_or ns (1 + 2 * index) 0; step = get_or ns (2 + 2 * index) 0 }) no_row

abbrev pub as_bands : ℕ → List ℕ → Start
as_bands count ns = record {
  table = record { count = count; rows = map (row_from count ns) (range_with_len 0 max_rows) };
  reference = get_or ns (1 + 2 * count) 0;
  factor = get_or ns (2 + 2 * count) 0;
  threshold = get_or ns (3 + 2 * count) 0;
  most = get_or ns (4 + 2 * count) 0;
}

pub bands-numbered : (part : List ℕ) (count : ℕ) → T (within min_rows max_rows count) → bands_by part count ≡ as_bands count (number part 0 2 ∷ fields_from (row_widths count) part 2)
bands-numbered part =
    of-count (λ (count : ℕ). bands_by part count ≡ as_bands count (number part 0 2 ∷ fields_from (row_widths count) part 2))
    refl refl refl refl refl refl refl refl

-- a row that is counted, and what stands behind all of them, by their places among the numbers
row-numbered : (n i : ℕ) (rs : List Row) (later : List ℕ) → i < n
    → (get_or (row_numbers n rs ++ later) (2 * i) 0 ≡ (get_or rs i no_row).lowest) × (get_or (row_numbers n rs ++ later) (suc (2 * i)) 0 ≡ (get_or rs i no_row).step)
row-numbered zero i rs later h = absurd (omega (arith, h))
row-numbered (suc n) zero [] later h = (refl, refl)
row-numbered (suc n) zero (r ∷ rs) later h = (refl, refl)
row-numbered (suc n) (suc i) [] later h = let e : 2 * suc i ≡ suc (suc (2 * i)) = omega arith in rw e (row-numbered n i [] later (omega (arith, h)))
row-numbered (suc n) (suc i) (r ∷ rs) later h = let e : 2 * suc i ≡ suc (suc (2 * i)) = omega arith in rw e (row-numbered n i rs later (omega (arith, h)))

behind-rows : (n k : ℕ) (rs : List Row) (later : List ℕ) → get_or (row_numbers n rs ++ later) (2 * n + k) 0 ≡ get_or later k 0
behind-rows zero k rs later = let e : 2 * 0 + k ≡ k = omega arith in rw e
behind-rows (suc n) k [] later = let e : 2 * suc n + k ≡ suc (suc (2 * n + k)) = omega arith in rw e (behind-rows n k [] later)
behind-rows (suc n) k (r ∷ rs) later = let e : 2 * suc n + k ≡ suc (suc (2 * n + k)) = omega arith in rw e (behind-rows n k rs later)

-- a row that isn't counted is 0
no-row : (r : Row) → T (is_no_row r) → r ≡ no_row
no-row r h = let (lowest, step) = and_both (eqb r.lowest 0) (eqb r.step 0) h in rw (eqb→eq _ _ lowest, eqb→eq _ _ step)

no_rows : (rs : List Row) (i : ℕ) → T (all is_no_row rs) → get_or rs i no_row ≡ no_row
no_rows [] i h = refl
no_rows (r ∷ rs) zero h = no-row r (and_both (is_no_row r) (all is_no_row rs) h).0
no_rows (r ∷ rs) (suc i) h = no_rows rs i (and_both (is_no_row r) (all is_no_row rs) h).1

-- a start is the one that its numbers make, since the rows that aren't counted are 0
module _ (s : Start) where
  abbrev n : ℕ
  n = s.table.count

  abbrev rs : List Row
  rs = all_rows s.table

  abbrev later : List ℕ
  later = s.reference ∷ s.factor ∷ s.threshold ∷ s.most ∷ []

  abbrev ns : List ℕ
  ns = numbers_of (Record.Bands s)

  row-back : T (all is_no_row (drop n rs)) → (i : ℕ) → row_from n ns i ≡ get_or rs i no_row
  row-back h i = go (ltb i n) refl where
    go : (b : Bool) → ltb i n ≡ b → cond b (record { lowest = get_or ns (1 + 2 * i) 0; step = get_or ns (2 + 2 * i) 0 }) no_row ≡ get_or rs i no_row
    go true e = let (lowest, step) = row-numbered n i rs later (ltb-true i n e) in let p : 1 + 2 * i ≡ suc (2 * i) = omega arith in let q : 2 + 2 * i ≡ suc (suc (2 * i)) = omega arith in rw (p, q, lowest, step)
    go false e = let p : n + (i - n) ≡ i = omega (arith, ltb-false i n e) in sym (no_rows (drop n rs) (i - n) h) ∙ get_or-drop n rs (i - n) no_row ∙ rw p

  rows-back : length rs ≡ max_rows → T (all is_no_row (drop n rs)) → map (row_from n ns) (range_with_len 0 max_rows) ≡ rs
  rows-back l h =
      ext_get_or no_row (map (row_from n ns) (range_with_len 0 max_rows)) rs (sym l)
      (λ i k. get_or-map-range_with_len (row_from n ns) 0 max_rows i i no_row k (omega arith) ∙ row-back h i)

  later-back : (k i : ℕ) → i ≡ suc (2 * n + k) → get_or ns i 0 ≡ get_or later k 0
  later-back k i e = rw e (behind-rows n k rs later)

  start-made : {rows : List Row} {a b c d : ℕ} → rows ≡ rs → a ≡ s.reference → b ≡ s.factor → c ≡ s.threshold → d ≡ s.most
      → ◌≡◌ {A = Start} (record { table = record { count = n; rows = rows }; reference = a; factor = b; threshold = c; most = d }) s
  start-made p a b c d = rw (p, a, b, c, d)

  pub bands-back : T (is_table s.table) → as_bands s.table.count (numbers_of (Record.Bands s)) ≡ s
  bands-back h =
      let parts = table-parts s.table h in
      start-made (rows-back parts.placed parts.unused) (later-back 0 _ (omega arith)) (later-back 1 _ (omega arith)) (later-back 2 _ (omega arith)) (later-back 3 _ (omega arith))
