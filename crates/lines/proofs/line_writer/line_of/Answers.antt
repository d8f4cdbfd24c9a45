-- The place, and what stands behind it.
use native.Mathlib.Omega.{arith}
use Rattle.text.specs.Text.{decimal}
use Rattle.text.specs.Decimal.{decimal-length}
use Rattle.lines.specs.Line.{answer_text}
use Rattle.lists.specs.Put.{put_then}
use Rattle.lines.proofs.line_writer.line_of.Goals as goal

pub put_answer-requires : goal.put_answer-requires
put_answer-requires c = omega (arith, decimal-length c.args.place)

pub returns : goal.returns
returns c = put_then _ _ _ _ _ _ (decimal c.args.place) (answer_text c.args.line) (omega (arith, c.requires)) c.put_decimal-p.ensures c.put_answer.ensures
