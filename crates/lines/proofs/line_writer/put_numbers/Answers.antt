use Rattle.text.specs.Text.{numeral}
use Rattle.lines.specs.OneByOne.{all_none, numbers-next, numbers-end}
use Rattle.lines.specs.Lengths.{numbers-within}
use native.Mathlib.Omega.{arith}
use Rattle.lines.proofs.line_writer.put_numbers.Goals as goal

pub loop-x-init : goal.loop-x-init
loop-x-init c = all_none numeral c.args.out.now c.args.at (omega arith)

pub put_number-end-requires : goal.put_number-end-requires
put_number-end-requires c = let a = c.args in
    let loop = c.loop-x in
    omega (arith, numbers-within a.out.now a.xs.now loop.out a.at loop.end loop.x-index loop.invariant)

pub loop-x-preserved : goal.loop-x-preserved
loop-x-preserved c = let a = c.args in
    let loop = c.loop-x in
    numbers-next a.out.now a.xs.now loop.out c.put_number-end.new.out a.at loop.end c.put_number-end.result loop.x-index (omega arith) (omega arith) c.put_number-end.auto.out loop.invariant c.put_number-end.ensures

pub put_byte-requires : goal.put_byte-requires
put_byte-requires c = let a = c.args in
    omega (arith, numbers-within a.out.now a.xs.now c.loop-x.out a.at c.loop-x.end c.loop-x.x-index c.loop-x.invariant)

pub returns : goal.returns
returns c = let a = c.args in
    let loop = c.loop-x in
    numbers-end a.out.now a.xs.now loop.out c.put_byte.new.out a.at loop.end c.put_byte.result loop.x-index (omega arith) (omega arith) loop.invariant c.put_byte.ensures
