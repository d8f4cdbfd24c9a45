-- Worked by hand: members 7 and 9, of which 7 buys 5 and then 3 of 9, and 2 of itself.
use Rattle.std.specs.Prelude.{ℕ, ◌≡◌, refl, List, [], ◌∷◌, get_or, replicate}
use Rattle.trades.specs.declared.{Trade.Trade}
use Rattle.squares.specs.Square.{square_cells, row_of, cell_of, total, added_to}

abbrev entered : List ℕ
entered = 7 ∷ 9 ∷ []

the-second-row : row_of entered 9 ≡ 1
the-second-row = refl

behind-the-last : row_of entered 4 ≡ 2
behind-the-last = refl

abbrev done : List Trade
done = record { buy = 7; sell = 9; quantity = 5 } ∷ record { buy = 7; sell = 9; quantity = 3 } ∷ record { buy = 7; sell = 7; quantity = 2 } ∷ []

abbrev cells : List ℕ
cells = added_to (λ m. row_of entered m) done (replicate square_cells 0)

of-the-other : get_or cells (cell_of 0 1) 0 ≡ 8
unfolding added_to
of-the-other = refl

of-itself : get_or cells (cell_of 0 0) 0 ≡ 2
unfolding added_to
of-itself = refl

the-other-way : get_or cells (cell_of 1 0) 0 ≡ 0
unfolding added_to
the-other-way = refl

together : total cells ≡ 10
unfolding added_to
together = refl
