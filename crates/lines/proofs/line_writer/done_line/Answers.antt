-- The place; then the word with its 0, and an order's number, or what any other line has.
use mathlib.Core.List.{[], ◌∷◌}
use Rattle.lines.specs.declared.{words.Word.Word}
use Rattle.text.specs.Text.{decimal}
use Rattle.lines.specs.Line.{worded, answer_text, done_line}
use Rattle.lists.specs.Put.{put_then}
use Rattle.text.specs.Decimal.{decimal-length}
use Rattle.lines.specs.Placed.{short-then, numbered-then, done-then}
use native.Mathlib.Omega.{arith}
use Rattle.lines.specs.Words.{word_text}
use Rattle.lines.proofs.line_writer.done_line.Goals as goal

pub put_bytes-q-requires : goal.put_bytes-q-requires
put_bytes-q-requires c = omega (arith, decimal-length c.args.place)

pub put_decimal-r-requires : goal.put_decimal-r-requires
put_decimal-r-requires c = omega (arith, decimal-length c.args.place)

pub put_byte-requires : goal.put_byte-requires
put_byte-requires c = omega (arith, decimal-length c.args.place, decimal-length c.from-told.result)

pub put_bytes-requires : goal.put_bytes-requires
put_bytes-requires c = omega (arith, decimal-length c.args.place)

pub put_answer-requires : goal.put_answer-requires
put_answer-requires c = omega (arith, decimal-length c.args.place)

pub returns-in-Order : goal.returns-in-Order
returns-in-Order c = rw c.in-Order.is
    (put_then _ _ _ _ _ _ (decimal c.args.place) (worded (word_text Word.Order) (0 ∷ c.args.number ∷ [])) (omega (arith, c.requires)) c.put_decimal-p.ensures
    (numbered-then _ _ _ _ _ _ _ _ (word_text Word.Order) 0 c.args.number [] (omega (arith, decimal-length c.args.place)) (omega arith)
    c.put_bytes-q.ensures (rw c.from-told.ensures at c.put_decimal-r.ensures) c.put_byte.ensures))

pub returns-in-Delete : goal.returns-in-Delete
returns-in-Delete c = rw c.in-Delete.is
    (put_then _ _ _ _ _ _ (decimal c.args.place) (worded (word_text Word.Delete) (0 ∷ [])) (omega (arith, c.requires)) c.put_decimal-p.ensures
    (short-then _ _ _ _ (word_text Word.Delete) 0 (omega arith) c.put_bytes.ensures))

pub returns-in_default : goal.returns-in_default
returns-in_default c = put_then _ _ _ _ _ _ (decimal c.args.place) (answer_text (done_line c.args.word c.args.number)) (omega (arith, c.requires)) c.put_decimal-p.ensures
    (done-then _ _ _ _ c.args.word c.args.number (rw c.from-told.ensures at (rw c.numbered.ensures at c.put_answer.ensures)))
