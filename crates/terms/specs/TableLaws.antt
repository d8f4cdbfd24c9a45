-- The laws of tables of steps, 02 K6: the row of a price, and a table tested row by row.
use Rattle.std.specs.Prelude.{ℕ, ◌≤◌, ◌<◌, ◌≡◌, List, T, length, drop, get_or}
use Rattle.lists.specs.Choice.{all}
use Rattle.terms.specs.Bounds.{min_rows, max_rows}
use Rattle.terms.specs.Kinds.{within}
use Rattle.terms.specs.Tables.{all_rows, rows, no_row, is_row, begins_lowest, rise, is_no_row}
use Rattle.terms.specs.declared.tables.{Row.Row, Table.Table}

-- ---- what a table is
pub record TableParts (t : Table) : Type 0 where
  pub placed : length (all_rows t) ≡ max_rows
  pub counted : T (within min_rows max_rows t.count)
  pub begins : T (begins_lowest (rows t))
  pub rises : T (rise 0 (rows t))
  pub each_row : T (all is_row (rows t))
  pub unused : T (all is_no_row (drop t.count (all_rows t)))

-- a row that doesn't begin above the price, with none behind it that doesn't; or all begin above it
pub record LastIn (price : ℕ) (rs : List Row) (r : Row) : Type 0 where
  pub at : ℕ
  pub within-rows : at < length rs
  pub is : get_or rs at no_row ≡ r
  pub begins : r.lowest ≤ price
  pub later-above : (k : ℕ) → at < k → k < length rs → price < (get_or rs k no_row).lowest

abbrev pub AllAbove : ℕ → List Row → Type 0
AllAbove price rs = (k : ℕ) → k < length rs → price < (get_or rs k no_row).lowest
