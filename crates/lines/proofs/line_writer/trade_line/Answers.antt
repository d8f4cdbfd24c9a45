-- The word, then the numbers.
use mathlib.Core.List.{[], ◌∷◌}
use Rattle.text.specs.Text.{trade_word}
use Rattle.lines.specs.Line.{numbers}
use Rattle.lists.specs.Put.{put_then}
use native.Mathlib.Omega.{arith}
use Rattle.lines.proofs.line_writer.trade_line.Goals as goal

pub returns : goal.returns
returns c = let a = c.args in
    let put-bytes = c.put_bytes-p in
    put_then _ _ _ _ _ _ trade_word (numbers (a.buy ∷ a.sell ∷ a.quantity ∷ [])) (omega (arith, c.requires)) put-bytes.ensures (rw (c.from.ensures, c.from-2.ensures, c.from-3.ensures) at c.put_numbers.ensures)
