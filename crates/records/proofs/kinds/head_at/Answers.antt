use Rattle.records.specs.Numbers.{number-cut}
use Rattle.records.proofs.kinds.head_at.Goals as goal

pub returns : goal.returns
returns c = let a = c.args in rw c.four.ensures (number-cut 4 a.bytes.now a.place)
