-- A space, then the digits.
use native.Mathlib.Omega.{arith}
use mathlib.Core.List.{[], ◌∷◌}
use Rattle.text.specs.Text.{space, decimal}
use Rattle.lists.specs.Put.{put_then}
use Rattle.text.proofs.put_number.Goals as goal

pub returns : goal.returns
returns c = let a = c.args in
    let put_byte = c.put_byte-p in
    put_then _ _ _ _ _ _ (space ∷ []) (decimal a.x) (omega (arith, c.requires)) put_byte.ensures c.put_decimal.ensures
