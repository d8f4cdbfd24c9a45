-- A digit, then a digit.
use mathlib.Core.List.{[], ◌∷◌}
use Prim.Native.Nat.{◌/◌, ◌%◌}
use Rattle.text.specs.Text.{digit}
use Rattle.lists.specs.Put.{put_then}
use native.Mathlib.Omega.{arith}
use Rattle.text.proofs.put_pair.Goals as goal

pub returns : goal.returns
returns c = let x = c.args.x in
    put_then _ _ _ _ _ _ (digit (x / 10) ∷ []) (digit (x % 10) ∷ []) (omega (arith, c.requires.0))
    c.put_digit-p.ensures c.put_digit.ensures
