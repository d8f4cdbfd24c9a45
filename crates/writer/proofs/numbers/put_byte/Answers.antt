use Prim.Native.Nat.{◌%◌}
use mathlib.Core.Path.{◌≡◌}
use native.Mathlib.Omega.{arith}
use Rattle.lists.specs.Put.{put-set}
use Rattle.writer.proofs.numbers.put_byte.Goals as goal

pub returns : goal.returns
returns c = let a = c.args in
    let e : a.x % 256 ≡ a.x = omega arith in
    (omega arith, rw e (put-set a.out.now a.at a.x c.requires))
