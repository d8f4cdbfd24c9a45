-- What stands behind a record's place, as the calls write it: a word behind a space, and numbers.
use Rattle.std.specs.Prelude.{ℕ, zero, suc, ◌+◌, ◌≤◌, ◌<◌, ◌≡◌, refl, List, [], ◌∷◌, ◌++◌, length, take}
use Rattle.std.proofs.Common.{subst, sym, ap, ◌∙◌, append_assoc, append-nil, arith}
use Rattle.lines.specs.declared.{words.Word.Word, Line.Line}
use Rattle.text.specs.Text.{digit, decimal, space, newline, numeral, texts}
use Rattle.lines.specs.Line.{numbers_of, numbers, worded, answer_text, numbered_line, number_told, done_line}
use Rattle.lists.specs.Put.{Wrote, put_then}
use Rattle.text.specs.Decimal.{digits-small}
use Rattle.lines.specs.Words.{word_text, word_numbers}

-- a word, an answer of one digit and a byte behind it
abbrev pub short : List ℕ → ℕ → ℕ → List ℕ
short word d byte = space ∷ word ++ (space ∷ digit d ∷ byte ∷ [])

-- a word, then the answer, and then the numbers that the word has
pub answered-then : (old one two new : List ℕ) (at p q r : ℕ) (l : Line) → at ≤ length old
    → Wrote old one at p (space ∷ word_text l.word) → Wrote one two p q (numeral l.answer) → Wrote two new q r (numbers (take (word_numbers l.word) (numbers_of l)))
    → Wrote old new at r (answer_text l)
answered-then old one two new at p q r l room first second third =
    let word = space ∷ word_text l.word in
    let told = take (word_numbers l.word) (numbers_of l) in
    subst (λ (t : List ℕ). Wrote old new at r t)
    (append_assoc word (numeral l.answer) (numbers told) ∙ ap (λ (t : List ℕ). word ++ t) (sym (append_assoc (numeral l.answer) (texts numeral told) (newline ∷ []))))
    (put_then old two new at q r (word ++ numeral l.answer) (numbers told) room (put_then old one two at p q word (numeral l.answer) room first second) third)

-- a word without numbers tells none
told-done : (word : Word) (number : ℕ) → answer_text (numbered_line word 0 number) ≡ answer_text (done_line word number)
told-done word number = rw (same (word_numbers word)) where
  same : (n : ℕ) → take n (number ∷ 0 ∷ 0 ∷ 0 ∷ []) ≡ take n (number_told n number ∷ 0 ∷ 0 ∷ 0 ∷ [])
  same zero = refl
  same (suc n) = refl

-- a word with an answer of one digit
pub short-then : (old new : List ℕ) (at r : ℕ) (word : List ℕ) (d : ℕ) → d < 10 → Wrote old new at r (short word d newline) → Wrote old new at r (worded word (d ∷ []))
short-then old new at r word d h first = rw (digits-small 19 d h) first

-- a record that was done, by its word
pub done-then : (old new : List ℕ) (at r : ℕ) (word : Word) (number : ℕ) → Wrote old new at r (answer_text (numbered_line word 0 number)) → Wrote old new at r (answer_text (done_line word number))
done-then old new at r word number first = subst (λ (t : List ℕ). Wrote old new at r t) (told-done word number) first

-- the last number of a line
pub last_then : (old one new : List ℕ) (at p r number : ℕ) → at ≤ length old → Wrote old one at p (numeral number) → Wrote one new p r (newline ∷ [])
    → Wrote old new at r (numbers (number ∷ []))
last_then old one new at p r number room first second =
    rw (append-nil (decimal number)) (put_then old one new at p r (numeral number) (newline ∷ []) room first second)

-- a word with an answer of one digit, a number, and the numbers behind it
pub numbered-then : (old one two new : List ℕ) (at p q r : ℕ) (word : List ℕ) (d number : ℕ) (xs : List ℕ) → at ≤ length old → d < 10
    → Wrote old one at p (short word d space) → Wrote one two p q (decimal number) → Wrote two new q r (numbers xs)
    → Wrote old new at r (worded word (d ∷ number ∷ xs))
numbered-then old one two new at p q r word d number xs room h first second third =
    subst (λ (t : List ℕ). Wrote old new at r t) text
    (put_then old two new at q r (short word d space ++ decimal number) (numbers xs) room
    (put_then old one two at p q (short word d space) (decimal number) room first second) third)
  where
    text : short word d space ++ decimal number ++ numbers xs ≡ worded word (d ∷ number ∷ xs)
    text = rw (digits-small 19 d h) (simp append_assoc)
