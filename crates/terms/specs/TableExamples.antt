-- Worked examples of tables of steps: 02 K6. From 1 on steps of 1, from 1,000 on steps of 5, from 2,500 on steps of 100.
use Rattle.std.specs.Prelude.{ℕ, ◌∷◌, replicate}
use Rattle.terms.specs.Tables.{no_row}
use Rattle.terms.specs.declared.tables.{Row.Row, Table.Table}

abbrev pub row : ℕ → ℕ → Row
row lowest step = record { lowest = lowest; step = step }

abbrev pub three : Row → Row → Row → Table
three a b c = record { count = 3; rows = a ∷ b ∷ c ∷ replicate 5 no_row }

abbrev pub sample : Table
sample = three (row 1 1) (row 1_000 5) (row 2_500 100)
