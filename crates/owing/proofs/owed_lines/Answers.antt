-- The rows of the square, then the total.
use native.Mathlib.Omega.{arith}
use Rattle.owing.specs.OneByOne.{owed-told}
use Rattle.owing.proofs.owed_lines.Goals as goal

pub returns : goal.returns
returns c = owed-told c.args.desk _ _ c.args.out.now _ _ _ c.args.at _ _ _ (omega (arith, c.requires.1)) c.square-owed.ensures c.total_of.ensures c.put_square-end.ensures.0 c.put_bytes-p.ensures c.put_numbers.ensures
