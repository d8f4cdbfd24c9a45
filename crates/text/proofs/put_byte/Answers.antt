-- One write.
use Rattle.lists.specs.Put.{put-set}
use native.Mathlib.Omega.{arith}
use Rattle.text.proofs.put_byte.Goals as goal

pub returns : goal.returns
returns c = (omega arith, put-set c.args.out.now c.args.at c.args.byte c.requires)
