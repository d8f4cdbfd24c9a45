use Rattle.std.proofs.Common.{◌≡◌, ◌+◌, ◌-◌, length, refl, arith, append_assoc, drop-drop}
use Rattle.lists.specs.Put.{put}
use Rattle.writer.proofs.numbers.put_bytes.Goals as goal

pub returns : goal.returns
unfolding put
returns c = let a = c.args in
    let n = length a.bytes.now in
    let e : a.at + n - a.at ≡ n = omega arith in
    (refl, rw (e, c.copy_from_slice.ensures.after, drop-drop) (rw append_assoc))
