-- Worked examples of tables of steps: 02 K6. From 1 on steps of 1, from 1,000 on steps of 5, from 2,500 on steps of 100.
use Rattle.std.specs.Prelude.{true, false, ◌≡◌, refl, ◌∷◌, replicate}
use Rattle.terms.specs.Tables.{no_row, row_of, on_step, is_table, one_row}
use Rattle.terms.specs.TableExamples.{row, sample, three}

a-table : is_table sample ≡ true
unfolding is_table
a-table = refl

-- below, at and above an edge
below-edge : (row_of sample 999 ≡ row 1 1) × (on_step sample 999 ≡ true)
unfolding row_of on_step
below-edge = (refl, refl)

at_edge : (row_of sample 2_500 ≡ row 2_500 100) × (on_step sample 2_500 ≡ true)
unfolding row_of on_step
at_edge = (refl, refl)

above-edge : (row_of sample 2_505 ≡ row 2_500 100) × (on_step sample 2_505 ≡ false)
unfolding row_of on_step
above-edge = (refl, refl)

last-below : (row_of sample 2_499 ≡ row 1_000 5) × (on_step sample 2_499 ≡ false) × (on_step sample 2_495 ≡ true)
unfolding row_of on_step
last-below = (refl, refl, refl)

-- no tables: it begins at 2, two rows begin alike, a row falls behind, a step or a lowest price out of its range, a row that isn't counted and says something
begins-at-two : is_table (three (row 2 1) (row 1_000 5) (row 2_500 100)) ≡ false
unfolding is_table
begins-at-two = refl

begin-alike : is_table (three (row 1 1) (row 1_000 5) (row 1_000 100)) ≡ false
unfolding is_table
begin-alike = refl

falls : is_table (three (row 1 1) (row 1_000 5) (row 999 100)) ≡ false
unfolding is_table
falls = refl

no_step : is_table (three (row 1 1) (row 1_000 5) (row 2_500 0)) ≡ false
unfolding is_table
no_step = refl

above-prices : is_table (three (row 1 1) (row 1_000 5) (row 100_000_001 100)) ≡ false
unfolding is_table
above-prices = refl

two-counted : is_table (record { count = 2; rows = row 1 1 ∷ row 1_000 5 ∷ row 2_500 100 ∷ replicate 5 no_row }) ≡ false
unfolding is_table
two-counted = refl

one-row : is_table (one_row 100) ≡ true
unfolding is_table
one-row = refl
