-- The words of lines: each kind of record has one, and as many numbers behind its answer (01 "Session file"; 02 K2).
use Rattle.std.specs.Prelude.{ℕ, ◌+◌, ◌≤◌, List, [], ◌∷◌, length}
use Rattle.std.proofs.Common.{arith}
use Rattle.lines.specs.declared.{words.Word.Word}

-- the word of each kind of record
abbrev pub word_text : Word → List ℕ
-- s t a r t
word_text Word.Start = 115 ∷ 116 ∷ 97 ∷ 114 ∷ 116 ∷ []
-- o r d e r
word_text Word.Order = 111 ∷ 114 ∷ 100 ∷ 101 ∷ 114 ∷ []
-- d e l e t e
word_text Word.Delete = 100 ∷ 101 ∷ 108 ∷ 101 ∷ 116 ∷ 101 ∷ []
-- a u c t i o n
word_text Word.Auction = 97 ∷ 117 ∷ 99 ∷ 116 ∷ 105 ∷ 111 ∷ 110 ∷ []
-- q u o t e
word_text Word.Quote = 113 ∷ 117 ∷ 111 ∷ 116 ∷ 101 ∷ []

-- how many numbers follow its answer: an order adds the number given or 0; an auction adds the four numbers;
-- a quote adds both numbers or 0 0 (02 K2)
abbrev pub word_numbers : Word → ℕ
word_numbers Word.Start = 0
word_numbers Word.Order = 1
word_numbers Word.Delete = 0
word_numbers Word.Auction = 4
word_numbers Word.Quote = 2

-- a word has at most so many letters, and so many numbers follow its answer
abbrev pub most_letters : ℕ
most_letters = 7

abbrev pub most_numbers : ℕ
most_numbers = 4

-- a word behind a space
abbrev pub word_room : ℕ
word_room = 1 + most_letters

pub word-length : (w : Word) → length (word_text w) ≤ most_letters
word-length Word.Start = omega arith
word-length Word.Order = omega arith
word-length Word.Delete = omega arith
word-length Word.Auction = omega arith
word-length Word.Quote = omega arith

pub word-numbers : (w : Word) → word_numbers w ≤ most_numbers
word-numbers Word.Start = omega arith
word-numbers Word.Order = omega arith
word-numbers Word.Delete = omega arith
word-numbers Word.Auction = omega arith
word-numbers Word.Quote = omega arith
