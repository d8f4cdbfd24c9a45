-- Each way to stop asks for its room and has its lines.
use Prim.Native.Nat.{◌+◌}
use borrow.Author.Rules.{rules}
use native.Mathlib.Omega.{arith}
use Rattle.lines.specs.Lengths.{fault-length}
use Rattle.lists.specs.Put.{put-nothing}
use Rattle.transcript.specs.Next.{fault-last}
use Rattle.telling.proofs.last_lines.Goals as goal

pub end_line-requires : goal.end_line-requires
end_line-requires c = let a = c.args in
    let h = (rw c.in-Fault.is at c.requires.0) in omega (arith, h, c.fault_line-behind.ensures.0, fault-length (a.answered + 1), c.fault_line-behind.auto.out)

pub returns-in-Full : goal.returns-in-Full
returns-in-Full c = rw c.in-Full.is (omega arith, put-nothing c.args.out.now c.args.at (omega (arith, c.requires.0)))

pub returns-in-Waits : goal.returns-in-Waits
returns-in-Waits c = rw c.in-Waits.is (omega arith, put-nothing c.args.out.now c.args.at (omega (arith, c.requires.0)))

pub returns-in-Fault : goal.returns-in-Fault
returns-in-Fault c = let a = c.args in
    rw c.in-Fault.is (fault-last a.out.now _ _ a.at c.fault_line-behind.result c.end_line.result a.answered (omega (arith, c.requires.0)) c.fault_line-behind.ensures c.end_line.ensures)
