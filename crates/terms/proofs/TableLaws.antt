-- The laws of tables of steps, 02 K6: the row of a price, and a table tested row by row.
use Rattle.std.specs.Prelude.{ℕ, zero, suc, ◌+◌, ◌≤◌, ◌<◌, Bool, true, false, ◌&&◌, ◌⊎◌, ◌≡◌, refl, List, [], ◌∷◌, T, leb, ltb, eqb, length, take, drop, get_or}
use Rattle.std.proofs.Common.{sym, ◌∙◌, drop_of_length-le, inl, inr, ⊎_elim, ap, arith, leb→le, length-take-le, le-leb, leb-true, leb-false, ltb-true, ltb-false, eqb-true, eq-eqb, eqb→eq}
use Rattle.std.specs.List.{fold}
use Rattle.std.proofs.lemmas.Bool.{lt-leb}
use Rattle.lists.specs.Tests.{passes, and_both}
use Rattle.lists.specs.Choice.{all}
use Rattle.terms.specs.Bounds.{min_price, min_rows, max_rows}
use Rattle.terms.specs.Kinds.{within, is_step, is_multiple}
use Rattle.terms.specs.Tables.{all_rows, rows, no_row, later_of, last_of, row_of, is_row, has_places, begins_lowest, rise, is_no_row, is_table, on_step, one_row, rows_follow}
use Rattle.terms.specs.declared.tables.{Row.Row, Table.Table}
use Rattle.terms.specs.TableLaws.{AllAbove, LastIn, TableParts}

pub table-parts : (t : Table) → T (is_table t) → TableParts t
unfolding is_table
table-parts t holds =
    let a = has_places t && within min_rows max_rows t.count in
    let (abcd, e) = and_both (a && begins_lowest (rows t) && rise 0 (rows t) && all is_row (rows t)) (all is_no_row (drop t.count (all_rows t))) holds in
    let (abc, d) = and_both (a && begins_lowest (rows t) && rise 0 (rows t)) (all is_row (rows t)) abcd in
    let (ab, c) = and_both (a && begins_lowest (rows t)) (rise 0 (rows t)) abc in
    let (both, begins) = and_both a (begins_lowest (rows t)) ab in
    let (placed, counted) = and_both (has_places t) (within min_rows max_rows t.count) both in
    record { placed = eqb→eq (length (all_rows t)) max_rows placed; counted = counted; begins = begins; rises = c; each_row = d; unused = e }

-- ---- the row of a price
-- .. found row by row
pub last-folded : (price : ℕ) (found : Row) (rs : List Row) → fold (later_of price) found rs ≡ last_of price found rs
last-folded price found [] = refl
last-folded price found (r ∷ rs) = last-folded price (later_of price found r) rs

module _ (price : ℕ) (r : Row) (rs : List Row) where
  first-row : r.lowest ≤ price → AllAbove price rs → LastIn price (r ∷ rs) r
  first-row h above = record { at = 0; within-rows = omega arith; is = refl; begins = h; later-above = behind } where
    behind : (k : ℕ) → 0 < k → k < length (r ∷ rs) → price < (get_or (r ∷ rs) k no_row).lowest
    behind zero l k = absurd (omega (arith, l))
    behind (suc n) l k = above n (omega (arith, k))

  later-row : {x : Row} → LastIn price rs x → LastIn price (r ∷ rs) x
  later-row l = record { at = suc l.at; within-rows = omega (arith, l.within-rows); is = l.is; begins = l.begins; later-above = behind } where
    behind : (k : ℕ) → suc l.at < k → k < length (r ∷ rs) → price < (get_or (r ∷ rs) k no_row).lowest
    behind zero h k = absurd (omega (arith, h))
    behind (suc n) h k = l.later-above n (omega (arith, h)) (omega (arith, k))

  no-row : price < r.lowest → AllAbove price rs → AllAbove price (r ∷ rs)
  no-row h above zero k = h
  no-row h above (suc n) k = above n (omega (arith, k))

last_found : (price : ℕ) (rs : List Row) (found : Row) → (AllAbove price rs × (last_of price found rs ≡ found)) ⊎ LastIn price rs (last_of price found rs)
last_found price [] found = inl ((λ k h. absurd (omega (arith, h))), refl)
last_found price (r ∷ rs) found = go (leb r.lowest price) refl (last_found price rs) where
  Found : Row → List Row → Row → Type 0
  Found f l x = (AllAbove price l × (x ≡ f)) ⊎ LastIn price l x

  go : (b : Bool) → leb r.lowest price ≡ b → ((f : Row) → Found f rs (last_of price f rs)) → Found found (r ∷ rs) (last_of price (later_of price found r) rs)
  go true p below =
      rw p
      (⊎_elim (λ (n : AllAbove price rs × (last_of price r rs ≡ r)). inr (rw n.1 (first-row price r rs (leb-true _ _ p) n.0))) (λ (l : LastIn price rs (last_of price r rs)). inr (later-row price r rs l)) (below r))
  go false p below =
      rw p
      (⊎_elim (λ (n : AllAbove price rs × (last_of price found rs ≡ found)). inl (no-row price r rs (leb-false _ _ p) n.0, n.1)) (λ (l : LastIn price rs (last_of price found rs)). inr (later-row price r rs l)) (below found))

-- no other row is the last that doesn't begin above the price
pub last-is-one : (price : ℕ) (rs : List Row) {x y : Row} (l : LastIn price rs x) (m : LastIn price rs y) → l.at ≡ m.at
last-is-one price rs l m = go (ltb l.at m.at) (ltb m.at l.at) refl refl where
  never : {x y : Row} (l : LastIn price rs x) (m : LastIn price rs y) → l.at < m.at → ⊥
  never l m h = let above = rw m.is at (l.later-above m.at h m.within-rows) in omega (arith, above, m.begins)

  go : (a b : Bool) → ltb l.at m.at ≡ a → ltb m.at l.at ≡ b → l.at ≡ m.at
  go true b p q = absurd (never l m (ltb-true _ _ p))
  go false true p q = absurd (never m l (ltb-true _ _ q))
  go false false p q = omega (arith, ltb-false l.at m.at p, ltb-false m.at l.at q)

-- 02 K6: the row of a price is the last that doesn't begin above it, and there is one
pub row-found : (t : Table) → T (is_table t) → (price : ℕ) → min_price ≤ price → LastIn price (rows t) (row_of t price)
unfolding row_of
row-found t holds price h =
    ⊎_elim (λ (n : AllAbove price (rows t) × (row_of t price ≡ no_row)). absurd (none_above (rows t) (table-parts t holds).begins n.0)) (λ (l : LastIn price (rows t) (row_of t price)). l) (last_found price (rows t) no_row) where
      none_above : (rs : List Row) → T (begins_lowest rs) → AllAbove price rs → ⊥
      none_above [] b above = b
      none_above (r ∷ rs) b above = let e = eqb-true r.lowest min_price (passes _ b) in let k = above 0 (omega arith) in omega (arith, e, k, h)

-- as many rows are counted as there are
pub rows-counted : (t : Table) → T (is_table t) → length (rows t) ≡ t.count
rows-counted t holds =
    let parts = table-parts t holds in
    let most = leb→le t.count max_rows (and_both (leb min_rows t.count) (leb t.count max_rows) parts.counted).1 in
    length-take-le t.count (all_rows t) (omega (arith, parts.placed, most))

-- ---- one step for all prices
-- its row is a table where the step is a step, and every price falls in it
pub one-row-table : (step : ℕ) → is_table (one_row step) ≡ is_step step
unfolding is_table
one-row-table step = go (is_step step) where
  go : (b : Bool) → b && true && true ≡ b
  go true = refl
  go false = refl

pub one-row-step : (step price : ℕ) → min_price ≤ price → on_step (one_row step) price ≡ is_multiple step price
unfolding row_of on_step
one-row-step step price h = rw (le-leb min_price price h)

-- ---- tested row by row
-- behind the rows counted
none-follow : (rs : List Row) (k count before : ℕ) → count < k → all is_no_row rs ≡ rows_follow k count before rs
none-follow [] k count before h = refl
none-follow (r ∷ rs) k count before h = rw (lt-leb k count h) (ap (λ (b : Bool). is_no_row r && b) (none-follow rs (suc k) count r.lowest (omega arith)))

together : (a b c d e : Bool) → (a && c) && (b && d) && e ≡ (a && b) && ((c && d) && e)
together true true c d e = refl
together true false true d e = refl
together true false false d e = refl
together false b c d e = refl

all-follow : (rs : List Row) (n k count before : ℕ) → n + k ≡ suc count
    → rise before (take n rs) && all is_row (take n rs) && all is_no_row (drop n rs) ≡ rows_follow k count before rs
all-follow rs zero k count before e = none-follow rs k count before (omega (arith, e))
all-follow [] (suc n) k count before e = refl
all-follow (r ∷ rs) (suc n) k count before e =
    rw (le-leb k count (omega (arith, e)), ← all-follow rs n (suc k) count r.lowest (omega (arith, e)))
    (together (ltb before r.lowest) (is_row r) (rise r.lowest (take n rs)) (all is_row (take n rs)) (all is_no_row (drop n rs)))

in_a_row : (a b c d : Bool) → a && ((b && c) && d) ≡ a && b && c && d
in_a_row true true true d = refl
in_a_row true true false d = refl
in_a_row true false c d = refl
in_a_row false b c d = refl

-- no row is left to test
pub none_left : (i count before : ℕ) (rs : List Row) {so_far every : Bool} → length rs ≤ i → so_far && rows_follow (i + 1) count before (drop i rs) ≡ every → so_far ≡ every
none_left i count before rs {so_far} h e = let d = drop_of_length-le rs h in sym (alone so_far) ∙ rw d at e where
  alone : (a : Bool) → a && true ≡ a
  alone true = refl
  alone false = refl

-- a table: 1 to 8 rows, the first beginning at 1, and each row by the one before it
pub table-holds : (t : Table) {every : Bool} → length (all_rows t) ≡ max_rows → every ≡ rows_follow 1 t.count 0 (all_rows t)
    → within min_rows max_rows t.count && eqb (get_or (all_rows t) 0 no_row).lowest min_price && every ≡ is_table t
unfolding is_table
table-holds t places e = rw (eq-eqb _ _ places, e) (go t.count (all_rows t) places) where
  go : (n : ℕ) (rs : List Row) → length rs ≡ max_rows
      → within min_rows max_rows n && eqb (get_or rs 0 no_row).lowest min_price && rows_follow 1 n 0 rs
      ≡ within min_rows max_rows n && begins_lowest (take n rs) && rise 0 (take n rs) && all is_row (take n rs) && all is_no_row (drop n rs)
  go zero rs p = refl
  go (suc n) [] p = absurd (omega (arith, p))
  go (suc n) (r ∷ rs) p =
      rw (← all-follow (r ∷ rs) (suc n) 1 (suc n) 0 (omega arith))
      (in_a_row (within min_rows max_rows (suc n) && eqb r.lowest min_price) (rise 0 (take (suc n) (r ∷ rs))) (all is_row (take (suc n) (r ∷ rs))) (all is_no_row (drop (suc n) (r ∷ rs))))
