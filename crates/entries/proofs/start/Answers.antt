use mathlib.Core.Path.{sym, ◌∙◌}
use Rattle.terms.proofs.Made.{parameters-good, parameters-refused}
use Rattle.entries.specs.StartCall.{start-out-of-range, start-again, start-begun}
use Rattle.entries.proofs.start.Goals as goal

pub returns-in_default : goal.returns-in_default
returns-in_default c = rw c.from-answer.ensures (start-out-of-range c.args.session c.args.start (parameters-refused c.args.start c.in_default.ensures))

pub returns-then-has_started : goal.returns-then-has_started
returns-then-has_started c =
    let a = c.args in
    rw c.from-answer-then-has_started.ensures
    (start-again a.session a.start (parameters-good a.start c.in-Ok.ensures) (sym c.has_started.ensures ∙ c.if-has_started.true))

pub returns : goal.returns
returns c = let a = c.args in start-begun a.session a.start (parameters-good a.start c.in-Ok.ensures) (sym c.has_started.ensures ∙ c.if-has_started.false)
