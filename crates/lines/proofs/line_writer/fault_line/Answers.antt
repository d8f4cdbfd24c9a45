-- The place, then the word with its 1.
use mathlib.Core.List.{[], ◌∷◌}
use Rattle.text.specs.Text.{decimal, fault_word}
use Rattle.text.specs.Decimal.{decimal-length}
use Rattle.lines.specs.Line.{worded}
use Rattle.lists.specs.Put.{put_then}
use Rattle.lines.specs.Placed.{short-then}
use native.Mathlib.Omega.{arith}
use Rattle.lines.proofs.line_writer.fault_line.Goals as goal

pub put_bytes-requires : goal.put_bytes-requires
put_bytes-requires c = omega (arith, decimal-length c.args.place)

pub returns : goal.returns
returns c = put_then _ _ _ _ _ _ (decimal c.args.place) (worded fault_word (1 ∷ [])) (omega (arith, c.requires)) c.put_decimal-p.ensures
    (short-then _ _ _ _ fault_word 1 (omega arith) c.put_bytes.ensures)
