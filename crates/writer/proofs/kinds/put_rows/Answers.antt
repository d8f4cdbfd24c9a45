use Rattle.std.proofs.Common.{arith, map}
use Rattle.std.proofs.lemmas.List.{map-append, length-map, length-take}
use Rattle.std.proofs.lemmas.Iterator.{YieldsList-from_slice, YieldsList-from_take}
use Rattle.std.proofs.lemmas.Iterator.Consumers.{YieldsList-turn, YieldsList-end}
use Rattle.lists.specs.Put.{put-nothing}
use Rattle.writer.specs.Rows.{rows-length, row-then}
use Rattle.writer.proofs.kinds.put_rows.Goals as goal

pub loop-row-init : goal.loop-row-init
loop-row-init c = (omega arith, put-nothing c.args.out.now c.args.at (omega (arith, c.requires)))

pub put_row-next-requires : goal.put_row-next-requires
put_row-next-requires c = let t = c.args.table in
    let turn = YieldsList-turn (YieldsList-from_take t.count (YieldsList-from_slice t.rows (cc)) (cc)) c.loop-row.yielded _ c.loop-row.yielded_by _ _ c.in-Some.row c.in-Some.is c.next.ensures.steps in
    omega (arith, turn.0, length-take t.count t.rows, rows-length (map (λ r. r.now) c.loop-row.yielded), length-map c.loop-row.yielded (λ r. r.now), c.requires, c.loop-row.invariant.0)

pub loop-row-preserved : goal.loop-row-preserved
loop-row-preserved c = let yielded = c.loop-row.yielded in
    rw (map-append) (row-then _ _ _ _ _ _ (map (λ r. r.now) yielded) c.in-Some.row.now (omega (arith, c.requires)) c.loop-row.invariant c.put_row-next.ensures)

pub returns : goal.returns
returns c = let t = c.args.table in
    let all = YieldsList-end (YieldsList-from_take t.count (YieldsList-from_slice t.rows (cc)) (cc)) c.loop-row.yielded _ c.loop-row.yielded_by _ _ c.in-None.is c.next.ensures.steps in
    rw (← all.0) c.loop-row.invariant
