use Rattle.std.proofs.Common.{arith}
use Rattle.fills.proofs.FrontLaws.{front-stop, front-more, front-end}
use Rattle.fills.proofs.front.front_length.Goals as goal

pub returns-then-rest-x : goal.returns-then-rest-x
returns-then-rest-x c = omega (arith, c.loop-i.invariant, front-stop c.loop-i.rest c.args.entries.now c.loop-i.i (omega arith) c.if-rest-x.true)

pub loop-i-preserved : goal.loop-i-preserved
loop-i-preserved c = omega (arith, c.loop-i.invariant, front-more c.loop-i.rest c.args.entries.now c.loop-i.i (omega arith) c.if-rest-x.false)

pub returns : goal.returns
returns c = omega (arith, c.loop-i.invariant, front-end c.loop-i.rest c.args.entries.now c.loop-i.i (omega arith))
