-- Worked by hand: a cell's line, and none for 0.
use Rattle.std.specs.Prelude.{◌≡◌, refl, [], ◌∷◌}
use Rattle.text.specs.Text.{digits}
use Rattle.owing.specs.Owing.{owes_line, total_line}

-- "owes 7 12 80"
seven-of-twelve : owes_line 7 12 80 ≡ 111 ∷ 119 ∷ 101 ∷ 115 ∷ 32 ∷ 55 ∷ 32 ∷ 49 ∷ 50 ∷ 32 ∷ 56 ∷ 48 ∷ 10 ∷ []
unfolding digits
seven-of-twelve = refl

nothing-bought : owes_line 7 12 0 ≡ []
nothing-bought = refl

-- "total 0" where nothing traded
nothing-traded : total_line 0 ≡ 116 ∷ 111 ∷ 116 ∷ 97 ∷ 108 ∷ 32 ∷ 48 ∷ 10 ∷ []
unfolding digits
nothing-traded = refl
