use Rattle.std.proofs.Common.{refl, sym, ◌∙◌, arith}
use Rattle.records.specs.Lengths.{length_bound}
use Rattle.replay.specs.WholeRun.{first-going, underway-first, underway-on, underway-over}
use Rattle.replay.proofs.all_turns.Goals as goal

pub loop-left-init : goal.loop-left-init
loop-left-init g c =
    let e = c.first-run.ensures in
    (rw e (first-going length_bound (omega arith)), rw e (omega arith), c.requires.0, refl, rw e (underway-first c.args.input.now c.args.output.now c.requires.1))

pub returns-then-is_over : goal.returns-then-is_over
returns-then-is_over g c =
    underway-over c.loop-left.invariant.4 c.turned-run.ensures.2 (sym c.is_over.ensures ∙ c.if-is_over.true)

pub loop-left-preserved : goal.loop-left-preserved
loop-left-preserved g c =
    let i = c.loop-left.invariant in
    let made = c.turned-run.ensures in (
      rw i.2 at made.0,
      omega (arith, i.1, i.2, made.1, c.loop-left-test.true),
      c.turned-run.auto.input ∙ i.2,
      c.turned-run.auto.output ∙ i.3,
      underway-on i.4 c.loop-left-test.true made.2 (sym c.is_over.ensures ∙ c.if-is_over.false),
    )
