-- The place; then the word with its 0, the buy's number and, behind a space, the sell's.
use mathlib.Core.List.{[], ◌∷◌}
use native.Mathlib.Omega.{arith}
use Rattle.lines.specs.declared.{words.Word.Word}
use Rattle.text.specs.Text.{decimal}
use Rattle.lines.specs.Words.{word_text}
use Rattle.lines.specs.Line.{worded}
use Rattle.text.specs.Decimal.{decimal-length}
use Rattle.lines.specs.Placed.{last_then, numbered-then}
use Rattle.lists.specs.Put.{put_then}
use Rattle.lines.proofs.line_writer.quote_line.Goals as goal

pub put_bytes-q-requires : goal.put_bytes-q-requires
put_bytes-q-requires c = omega (arith, decimal-length c.args.place)

pub put_decimal-r-requires : goal.put_decimal-r-requires
put_decimal-r-requires c = omega (arith, decimal-length c.args.place)

pub put_number-s-requires : goal.put_number-s-requires
put_number-s-requires c = omega (arith, decimal-length c.args.place, decimal-length c.from.result, decimal-length c.from-2.result)

pub put_byte-requires : goal.put_byte-requires
put_byte-requires c = omega (arith, decimal-length c.args.place, decimal-length c.from.result, decimal-length c.from-2.result)

pub returns : goal.returns
returns c = put_then _ _ _ _ _ _ (decimal c.args.place) (worded (word_text Word.Quote) (0 ∷ c.args.bid ∷ c.args.ask ∷ [])) (omega (arith, c.requires)) c.put_decimal-p.ensures
    (numbered-then _ _ _ _ _ _ _ _ (word_text Word.Quote) 0 c.args.bid (c.args.ask ∷ []) (omega (arith, decimal-length c.args.place)) (omega arith)
    c.put_bytes-q.ensures (rw c.from.ensures at c.put_decimal-r.ensures)
    (last_then _ _ _ _ _ _ c.args.ask (omega (arith, decimal-length c.args.place, decimal-length c.from.result, decimal-length c.from-2.result)) (rw c.from-2.ensures at c.put_number-s.ensures) c.put_byte.ensures))
