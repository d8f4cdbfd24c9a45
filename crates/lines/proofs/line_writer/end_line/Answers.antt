-- The word, then the number.
use mathlib.Core.List.{[], ◌∷◌}
use Rattle.text.specs.Text.{end_word}
use Rattle.lines.specs.Line.{numbers}
use Rattle.lists.specs.Put.{put_then}
use native.Mathlib.Omega.{arith}
use Rattle.lines.proofs.line_writer.end_line.Goals as goal

pub returns : goal.returns
returns c = let a = c.args in
    let put-bytes = c.put_bytes-p in
    put_then _ _ _ _ _ _ end_word (numbers (a.count ∷ [])) (omega (arith, c.requires)) put-bytes.ensures c.put_numbers.ensures
