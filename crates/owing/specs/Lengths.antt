-- How long the lines of who owes whom can be: a member has five digits, a cell as many as a number of 64 bits.
use Rattle.std.specs.Prelude.{ℕ, ◌+◌, ◌*◌, ◌≤◌, Bool, true, false, cond, ◌≡◌, List, [], ◌∷◌, ◌++◌, eqb, length}
use Rattle.std.proofs.Common.{arith, length-append}
use Rattle.terms.specs.Bounds.{max_member}
use Rattle.text.specs.Text.{numeral, numeral_room, newline}
use Rattle.text.specs.Decimal.{decimal-length, decimal-short}
use Rattle.lines.specs.Line.{numbers}
use Rattle.lines.specs.Lengths.{numbers_room}
use Rattle.squares.specs.Square.{square_cells}
use Rattle.owing.specs.Owing.{owes_word, owes_line}

-- digits of a member
abbrev member_digits : ℕ
member_digits = 5

-- what the line of a cell takes at most
abbrev pub owes_most : ℕ
owes_most = length owes_word + (1 + member_digits) + (1 + member_digits) + numeral_room + 1

-- .. and the room in which it is written, as one of three numbers of 64 bits
abbrev pub owes_room : ℕ
owes_room = length owes_word + numbers_room 3

-- room that suffices for all of them: every cell's, and the total's
abbrev pub square_room : ℕ
square_room = square_cells * owes_most + owes_room

three : (a b c : List ℕ) → length (a ++ (b ++ (c ++ [])) ++ (newline ∷ [])) ≡ length a + length b + length c + 1
three a b c =
    omega (arith, length-append (a ++ (b ++ (c ++ []))) (newline ∷ []), length-append a (b ++ (c ++ [])), length-append b (c ++ []), length-append c [])

pub owes-short : (buyer seller quantity : ℕ) → buyer ≤ max_member → seller ≤ max_member → length (owes_line buyer seller quantity) ≤ owes_most
owes-short buyer seller quantity b s = go (eqb quantity 0)
  where
    go : (t : Bool) → length (cond t [] (owes_word ++ numbers (buyer ∷ seller ∷ quantity ∷ []))) ≤ owes_most
    go true = omega arith
    go false =
        omega (
          arith,
          length-append owes_word (numbers (buyer ∷ seller ∷ quantity ∷ [])),
          three (numeral buyer) (numeral seller) (numeral quantity),
          decimal-short 4 buyer (omega arith),
          decimal-short 4 seller (omega arith),
          decimal-length quantity,
        )
