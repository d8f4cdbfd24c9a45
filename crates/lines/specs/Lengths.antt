-- How long a line can be, and so how much room suffices for it.
use Rattle.std.specs.Prelude.{ℕ, ◌+◌, ◌*◌, ◌≤◌, List, [], ◌∷◌, ◌++◌, length, take}
use Rattle.std.proofs.Common.{arith, length-append, length-take}
use Rattle.trades.specs.declared.{Trade.Trade}
use Rattle.lines.specs.declared.{Line.Line}
use Rattle.text.specs.Text.{most_digits, decimal, space, newline, numeral, numeral_room, texts, trade_word, fault_word, end_word}
use Rattle.text.specs.Decimal.{decimal-length}
use Rattle.lines.specs.Line.{numbers_of, numbers, worded, line_of, trade_line, trade_lines, fault_line, end_line}
use Rattle.lines.specs.OneByOne.{texts-length, WroteAll}
use Rattle.lines.specs.Words.{most_numbers, word-length, word-numbers, word_numbers, word_room, word_text}

-- n numbers of 64 bits, each behind a space, and the end of the line
abbrev pub numbers_room : ℕ → ℕ
numbers_room n = numeral_room * n + 1

-- a word, its answer and its numbers
abbrev pub answer_room : ℕ
answer_room = word_room + numbers_room (1 + most_numbers)

-- .. behind a place; a trade has three numbers
abbrev pub line_room : ℕ
line_room = most_digits + answer_room

abbrev pub trade_room : ℕ
trade_room = length trade_word + numbers_room 3

abbrev pub fault_room : ℕ
fault_room = most_digits + (word_room + numbers_room 1)

abbrev pub end_room : ℕ
end_room = length end_word + numbers_room 1

numeral-length : (x : ℕ) → length (numeral x) ≤ numeral_room
numeral-length x = omega (arith, decimal-length x)

numbers-length : (xs : List ℕ) → length (numbers xs) ≤ numbers_room (length xs)
numbers-length xs = omega (arith, length-append (texts numeral xs) (newline ∷ []), texts-length numeral numeral_room numeral-length xs)

worded-length : (place : ℕ) (word xs : List ℕ) → length (decimal place ++ worded word xs) ≤ most_digits + (1 + length word + numbers_room (length xs))
worded-length place word xs =
    omega (arith, length-append (decimal place) (worded word xs), length-append (space ∷ word) (numbers xs), decimal-length place, numbers-length xs)

pub line-length : (place : ℕ) (l : Line) → length (line_of place l) ≤ line_room
line-length place l =
    let w = l.word in
    omega (arith, worded-length place (word_text w) (l.answer ∷ take (word_numbers w) (numbers_of l)), word-length w, word-numbers w, length-take (word_numbers w) (numbers_of l))

trade-length : (t : Trade) → length (trade_line t) ≤ trade_room
trade-length t = omega (arith, length-append trade_word (numbers (t.buy ∷ t.sell ∷ t.quantity ∷ [])), numbers-length (t.buy ∷ t.sell ∷ t.quantity ∷ []))

pub trades-room : (ts : List Trade) → length (trade_lines ts) ≤ trade_room * length ts
trades-room ts = omega (arith, texts-length trade_line trade_room trade-length ts)

pub fault-length : (place : ℕ) → length (fault_line place) ≤ fault_room
fault-length place = omega (arith, worded-length place fault_word (1 ∷ []))

pub end-length : (count : ℕ) → length (end_line count) ≤ end_room
end-length count = omega (arith, length-append end_word (numbers (count ∷ [])), numbers-length (count ∷ []))

-- the first i numbers of a line keep within their room
pub numbers-within : (old xs out : List ℕ) (at end i : ℕ) → WroteAll numeral old at (take i xs) out end → end ≤ at + numeral_room * i
numbers-within old xs out at end i s = omega (arith, s.1.0, texts-length numeral numeral_room numeral-length (take i xs), length-take i xs)
