-- Who owes whom (02 K5): behind the session's own lines one for each cell that is not 0, by rows and then by columns, and the total.
use Rattle.std.specs.Prelude.{ℕ, zero, suc, cond, List, [], ◌∷◌, ◌++◌, eqb, get_or}
use Rattle.lines.specs.Line.{numbers}
use Rattle.squares.specs.Square.{square_members, square_of, total}
use Rattle.desk.specs.declared.{Desk.Desk}

-- o w e s
abbrev pub owes_word : List ℕ
owes_word = 111 ∷ 119 ∷ 101 ∷ 115 ∷ []

-- t o t a l
abbrev pub total_word : List ℕ
total_word = 116 ∷ 111 ∷ 116 ∷ 97 ∷ 108 ∷ []

-- the line of a cell, where it is not 0: the buying member, the selling member, the quantity
abbrev pub owes_line : ℕ → ℕ → ℕ → List ℕ
owes_line buyer seller quantity = cond (eqb quantity 0) [] (owes_word ++ numbers (buyer ∷ seller ∷ quantity ∷ []))

-- the texts of 0, 1, 2 and so on, n of them
unfoldable pub first_texts : (ℕ → List ℕ) → ℕ → List ℕ
first_texts f zero = []
first_texts f (suc n) = first_texts f n ++ f n

-- the lines of a row, by columns
abbrev pub row_lines : List ℕ → ℕ → List ℕ → List ℕ
row_lines members buyer cells = first_texts (λ j. owes_line buyer (get_or members j 0) (get_or cells j 0)) square_members

-- .. of all rows, and all cells together
abbrev pub square_lines : List ℕ → List (List ℕ) → List ℕ
square_lines members square = first_texts (λ i. row_lines members (get_or members i 0) (get_or square i [])) square_members

abbrev pub total_line : ℕ → List ℕ
total_line n = total_word ++ numbers (n ∷ [])

unfoldable pub owed_lines : Desk → List ℕ
owed_lines d = square_lines d.members (square_of d.totals) ++ total_line (total d.totals)
