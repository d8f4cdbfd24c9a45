-- Price steps by band: 02 K6. Rows of a lowest price and a step; a start of kind 1 means one row.
use Rattle.std.specs.Prelude.{ℕ, suc, ◌-◌, Bool, true, false, cond, ◌&&◌, List, [], ◌∷◌, leb, ltb, eqb, length, replicate, take, drop}
use Rattle.lists.specs.Choice.{all}
use Rattle.terms.specs.Bounds.{min_price, min_rows, max_rows}
use Rattle.terms.specs.Kinds.{within, is_price, is_step, is_multiple}
use Rattle.terms.specs.declared.tables.{Row.Row, Table.Table}

-- up to eight rows
abbrev pub all_rows : Table → List Row
all_rows t = t.rows

-- those counted
abbrev pub rows : Table → List Row
rows t = take t.count (all_rows t)

-- ---- a table

-- a row: its lowest price a price, its step a step
abbrev pub is_row : Row → Bool
is_row r = is_price r.lowest && is_step r.step

-- the first row begins at 1
abbrev pub begins_lowest : List Row → Bool
begins_lowest [] = false
begins_lowest (r ∷ rs) = eqb r.lowest min_price

-- lowest prices rise strictly, from one before them on
abbrev pub rise : ℕ → List Row → Bool
rise before [] = true
rise before (r ∷ rs) = ltb before r.lowest && rise r.lowest rs

-- what stands behind the rows counted
abbrev pub no_row : Row
no_row = record { lowest = 0; step = 0 }

abbrev pub is_no_row : Row → Bool
is_no_row r = eqb r.lowest 0 && eqb r.step 0

-- place for eight rows, as every table of the code has
abbrev pub has_places : Table → Bool
has_places t = eqb (length (all_rows t)) max_rows

-- 1 to 8 rows are counted; the first begins at 1, lowest prices rise strictly, each row is one; unused rows are 0
unfoldable pub is_table : Table → Bool
is_table t = has_places t && within min_rows max_rows t.count && begins_lowest (rows t) && rise 0 (rows t) && all is_row (rows t) && all is_no_row (drop t.count (all_rows t))

-- ---- the step of a price

-- a row, or the one found before it where it begins above the price
abbrev pub later_of : ℕ → Row → Row → Row
later_of price found r = cond (leb r.lowest price) r found

-- the last row that doesn't begin above the price; found, if there is none
abbrev pub last_of : ℕ → Row → List Row → Row
last_of price found [] = found
last_of price found (r ∷ rs) = last_of price (later_of price found r) rs

-- a price falls in the last row that doesn't begin above it
unfoldable pub row_of : Table → ℕ → Row
row_of t price = last_of price no_row (rows t)

-- a price is on its step: a multiple of the step of the row in which it falls
unfoldable pub on_step : Table → ℕ → Bool
on_step t price = is_multiple (row_of t price).step price

-- a reference price: a price, and on its step
abbrev pub is_reference : Table → ℕ → Bool
is_reference t x = is_price x && on_step t x

-- ---- one step for all prices
abbrev pub one_row : ℕ → Table
one_row step = record { count = 1; rows = record { lowest = min_price; step = step } ∷ replicate (max_rows - 1) no_row }

-- ---- row by row, as the code tests a table

-- a row behind one that begins at a price
abbrev pub row_follows : Bool → ℕ → Row → Bool
row_follows true before r = ltb before r.lowest && is_row r
row_follows false before r = is_no_row r

-- the rows from the k-th on, where so many are counted
abbrev pub rows_follow : ℕ → ℕ → ℕ → List Row → Bool
rows_follow k count before [] = true
rows_follow k count before (r ∷ rs) = row_follows (leb k count) before r && rows_follow (suc k) count r.lowest rs
