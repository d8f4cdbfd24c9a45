use Rattle.std.proofs.Common.{refl, rules, arith}
use Rattle.rewrite.specs.Rewriting.{going_on, refused-at, faulty-at, ended_at, record-further}
use Rattle.rewrite.proofs.copy.rewritten.Goals as goal

pub returns-then-is_refused : goal.returns-then-is_refused
returns-then-is_refused c =
    refused-at _ _ _ _ _ c.loop-record.invariant.0 c.in-Record.ensures c.write_record-written.ensures _ c.if-is_refused.true

pub loop-record-smaller : goal.loop-record-smaller
loop-record-smaller c = omega (arith, record-further _ _ c.in-Record.ensures)

pub loop-record-preserved : goal.loop-record-preserved
loop-record-preserved c =
    let f = record-further _ _ c.in-Record.ensures in
    (going_on _ _ _ _ _ c.loop-record.invariant.0 c.in-Record.ensures c.write_record-written.ensures c.if-is_refused.false (search rules), f.1, omega (arith, f))

pub returns-in-Fault : goal.returns-in-Fault
returns-in-Fault c = rw c.all_written.ensures (faulty-at _ _ _ _ _ c.loop-record.invariant.0 _ c.in-Fault.ensures)

pub returns-in-End : goal.returns-in-End
returns-in-End c = rw c.all_written-in-End.ensures (ended_at _ _ _ _ _ c.loop-record.invariant.0 _ refl c.in-End.ensures)

pub returns-in-Waits : goal.returns-in-Waits
returns-in-Waits c = rw c.all_written-in-Waits.ensures (ended_at _ _ _ _ _ c.loop-record.invariant.0 _ refl c.in-Waits.ensures)
