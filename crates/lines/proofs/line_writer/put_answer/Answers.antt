-- The word; then the answer; then as many numbers as the word has.
use mathlib.Core.Path.{ap, ◌∙◌}
use lib.ListN.{length}
use Rattle.std.specs.Prelude.{ℕ, suc, ◌≡◌, ◌+◌, ◌≤◌}
use native.Mathlib.Omega.{arith}
use Rattle.std.proofs.Common.{length-take}
use Rattle.text.specs.Text.{most_digits, decimal}
use Rattle.text.specs.Decimal.{decimal-length}
use Rattle.lists.specs.Put.{put-length}
use Rattle.lines.specs.Line.{numbers_of}
use Rattle.lines.specs.Words.{word_numbers, word-length, word-numbers}
use Rattle.lines.specs.Placed.{answered-then}
use Rattle.lines.proofs.line_writer.put_answer.Goals as goal

-- of the number that was put, whichever it is: that it is the answer is for `returns` to say
room_of : (x p q : ℕ) → q ≡ p + suc (length (decimal x)) → length (decimal x) ≤ most_digits
room_of x p q e = decimal-length x

pub put_numbers-requires : goal.put_numbers-requires
put_numbers-requires c =
    let l = c.args.line in
    let letters = word-length l.word in
    let digits = room_of _ _ _ c.put_number-q.ensures.0 in
    let one = ap length c.put_word-p.ensures.1 ∙ put-length c.args.out.now c.args.at _ (omega (arith, c.requires, letters)) in
    let two = ap length c.put_number-q.ensures.1 ∙ put-length c.put_word-p.new.out c.put_word-p.result _ (omega (arith, c.requires, letters, digits, one, c.put_word-p.ensures.0)) in
    rw c.word_numbers.ensures
    (omega (arith, c.requires, letters, digits, one, two, c.put_word-p.ensures.0, c.put_number-q.ensures.0, word-numbers l.word, length-take (word_numbers l.word) (numbers_of l)))

pub returns : goal.returns
returns c =
    answered-then _ _ _ _ _ _ _ _ c.args.line (omega (arith, c.requires)) c.put_word-p.ensures c.put_number-q.ensures (rw c.word_numbers.ensures at c.put_numbers.ensures)
