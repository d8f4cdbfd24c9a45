-- The rows of a start by bands as its code writes them, 02 K6: those counted, one behind the other; and the fields behind them.
use Rattle.std.specs.Prelude.{ℕ, zero, suc, ◌*◌, ◌≤◌, ◌≡◌, refl, List, [], ◌∷◌, ◌++◌, T, leb, length, take}
use Rattle.std.proofs.Common.{subst, leb→le, arith}
use Rattle.lists.specs.Put.{Wrote, put_then}
use Rattle.lists.specs.Tests.{and_both}
use Rattle.terms.specs.Bounds.{min_rows, max_rows}
use Rattle.terms.specs.Kinds.{within}
use Rattle.terms.specs.Tables.{all_rows, rows}
use Rattle.terms.specs.declared.tables.{Row.Row, Table.Table}
use Rattle.records.specs.Fields.{row_widths}
use Rattle.records.specs.Layout.{bytes_of}
use Rattle.records.specs.Bytes.{row_numbers}

-- reference, factor, threshold, maximum value
abbrev pub later_bytes : ℕ → ℕ → ℕ → ℕ → List ℕ
later_bytes reference factor threshold most = bytes_of (row_widths 0) (reference ∷ factor ∷ threshold ∷ most ∷ [])

-- a row
abbrev pub row_bytes : Row → List ℕ
row_bytes r = bytes_of (4 ∷ 4 ∷ []) (r.lowest ∷ r.step ∷ [])

-- rows, one behind the other
abbrev pub rows_bytes : List Row → List ℕ
rows_bytes [] = []
rows_bytes (r ∷ rs) = row_bytes r ++ rows_bytes rs

-- room for so many
abbrev pub rows_room : ℕ → ℕ
rows_room count = 8 * count

pub rows-length : (rs : List Row) → length (rows_bytes rs) ≡ 8 * length rs
rows-length [] = refl
rows-length (r ∷ rs) = omega (arith, rows-length rs)

rows-more : (rs : List Row) (r : Row) → rows_bytes rs ++ row_bytes r ≡ rows_bytes (rs ++ (r ∷ []))
rows-more [] r = refl
rows-more (x ∷ rs) r = rw (← rows-more rs r)

-- one row more
pub row-then : (old one new : List ℕ) (at p r : ℕ) (rs : List Row) (row : Row) → at ≤ length old
    → Wrote old one at p (rows_bytes rs) → Wrote one new p r (row_bytes row) → Wrote old new at r (rows_bytes (rs ++ (row ∷ [])))
row-then old one new at p r rs row room first later =
    subst (λ (text : List ℕ). Wrote old new at r text) (rows-more rs row) (put_then old one new at p r (rows_bytes rs) (row_bytes row) room first later)

-- rows, and the fields behind them, are what the layout has
rows-laid : (n : ℕ) (rs : List Row) (later : List ℕ) → n ≤ length rs
    → rows_bytes (take n rs) ++ bytes_of (row_widths 0) later ≡ bytes_of (row_widths n) (row_numbers n rs ++ later)
rows-laid zero rs later h = refl
rows-laid (suc n) [] later h = absurd (omega (arith, h))
rows-laid (suc n) (r ∷ rs) later h = rw (← rows-laid n rs later (omega (arith, h)))

pub rows_then : (old one new : List ℕ) (at p r : ℕ) (t : Table) (reference factor threshold most : ℕ) → length (all_rows t) ≡ max_rows → T (within min_rows max_rows t.count) → at ≤ length old
    → Wrote old one at p (rows_bytes (rows t)) → Wrote one new p r (later_bytes reference factor threshold most)
    → Wrote old new at r (bytes_of (row_widths t.count) (row_numbers t.count (all_rows t) ++ (reference ∷ factor ∷ threshold ∷ most ∷ [])))
rows_then old one new at p r t reference factor threshold most placed within-rows room first later =
    let counted = leb→le t.count max_rows (and_both (leb min_rows t.count) (leb t.count max_rows) within-rows).1 in
    subst (λ (text : List ℕ). Wrote old new at r text)
    (rows-laid t.count (all_rows t) (reference ∷ factor ∷ threshold ∷ most ∷ []) (omega (arith, placed, counted)))
    (put_then old one new at p r (rows_bytes (rows t)) (later_bytes reference factor threshold most) room first later)
