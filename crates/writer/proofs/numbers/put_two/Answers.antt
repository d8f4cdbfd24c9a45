use Rattle.writer.specs.Numbers.{number-put}
use Rattle.writer.proofs.numbers.put_two.Goals as goal

pub returns : goal.returns
returns c = number-put _ _ _ _ 2 c.args.x c.to_le_bytes.ensures c.put_bytes.ensures
