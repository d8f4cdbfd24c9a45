-- The records, and the last lines behind them.
use borrow.Author.Rules.{rules}
use native.Mathlib.Omega.{arith}
use Rattle.transcript.specs.Underway.{last-room, last-counted, told-whole}
use Rattle.telling.proofs.told.Goals as goal

pub last_lines-at-requires : goal.last_lines-at-requires
last_lines-at-requires c = let pre = c.requires in
    let a = c.args in (
      last-room a.ended a.bytes.now a.out.now a.session a.answered pre.0 c.records_told-r.result c.records_told-r.new.out c.records_told-r.ensures.0 c.records_told-r.ensures.1 c.records_told-r.auto.out,
      omega (arith, pre.1, last-counted a.ended a.bytes.now a.out.now a.session a.answered pre.0 c.records_told-r.result c.records_told-r.new.out c.records_told-r.ensures.0 c.records_told-r.ensures.1 c.records_told-r.auto.out),
    )

pub returns : goal.returns
returns c = let pre = c.requires in
    let a = c.args in
    told-whole a.ended a.bytes.now a.out.now a.session a.answered pre.0 c.records_told-r.result c.records_told-r.new.out c.records_told-r.ensures.0 c.records_told-r.ensures.1 c.records_told-r.auto.out c.records_told-r.ensures.2 c.last_lines-at.ensures
