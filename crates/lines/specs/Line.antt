-- Lines: record place from 1, word, answer number; what an order, a quote and an auction add; one line per trade; the fault and the end.
use Rattle.std.specs.Prelude.{ℕ, zero, suc, List, [], ◌∷◌, ◌++◌, take}
use Rattle.trades.specs.declared.{Trade.Trade}
use Rattle.lines.specs.declared.{words.Word.Word, Line.Line}
use Rattle.text.specs.Text.{decimal, space, newline, numeral, texts, trade_word, fault_word, end_word}
use Rattle.lines.specs.Words.{word_numbers, word_text}

-- numbers, each behind a space, and the end of the line
abbrev pub numbers : List ℕ → List ℕ
numbers xs = texts numeral xs ++ (newline ∷ [])

-- a word behind a space, and numbers
abbrev pub worded : List ℕ → List ℕ → List ℕ
worded word xs = space ∷ word ++ numbers xs

-- the numbers of a line, printed or not
abbrev pub numbers_of : Line → List ℕ
numbers_of l = l.numbers

-- what stands behind a record's place: its word, its answer, and the numbers that its word has
abbrev pub answer_text : Line → List ℕ
answer_text l = worded (word_text l.word) (l.answer ∷ take (word_numbers l.word) (numbers_of l))

-- the line of a record
abbrev pub line_of : ℕ → Line → List ℕ
line_of place l = decimal place ++ answer_text l

-- then one line per trade: buy, sell, quantity
abbrev pub trade_line : Trade → List ℕ
trade_line t = trade_word ++ numbers (t.buy ∷ t.sell ∷ t.quantity ∷ [])

abbrev pub trade_lines : List Trade → List ℕ
trade_lines ts = texts trade_line ts

-- a record that ends the walk prints `fault 1` after its place
abbrev pub fault_line : ℕ → List ℕ
fault_line place = decimal place ++ worded fault_word (1 ∷ [])

-- the last line counts records answered
abbrev pub end_line : ℕ → List ℕ
end_line count = end_word ++ numbers (count ∷ [])

-- a line in which no number but the first is other than 0
abbrev pub numbered_line : Word → ℕ → ℕ → Line
numbered_line word answer number = record { word = word; answer = answer; numbers = number ∷ 0 ∷ 0 ∷ 0 ∷ [] }

-- a record that is done is answered 0, and tells the number given if its word has numbers
abbrev pub number_told : ℕ → ℕ → ℕ
number_told zero number = 0
number_told (suc n) number = number

abbrev pub done_line : Word → ℕ → Line
done_line word number = numbered_line word 0 (number_told (word_numbers word) number)

-- a quote that is done is answered 0, and tells its buy's number and its sell's (02 K2)
abbrev pub quote_line : ℕ → ℕ → Line
quote_line bid ask = record { word = Word.Quote; answer = 0; numbers = bid ∷ ask ∷ 0 ∷ 0 ∷ [] }
