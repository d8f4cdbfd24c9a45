use Rattle.std.proofs.Common.{rules}
use Rattle.std.proofs.lemmas.Grind.{common_steps}
use Rattle.records.specs.Numbers.{number-one}
use Rattle.records.proofs.numbers.byte.Goals as goal

pub returns : goal.returns
returns c = rw (← number-one c.args.bytes.now c.args.at) (search (rules, common_steps))
