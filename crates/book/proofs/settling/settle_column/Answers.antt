use Rattle.std.proofs.Common.{ap, ◌∙◌, get_or, length, ◌<◌, arith, rules}
use Rattle.std.proofs.lemmas.List.{get_or_default}
use Rattle.book.specs.Settling.{kept_by, column_to, column-next}
use Rattle.book.proofs.settling.settle_column.Goals as goal

pub loop-place-init : goal.loop-place-init
unfolding column_to
loop-place-init g c = search rules

pub loop-place-preserved : goal.loop-place-preserved
loop-place-preserved g c =
    let a = c.args in
    let l = c.loop-place in
    let within : l.place < length l.column = omega arith in
    column-next g.T.Stored.empty a.rests.now a.column.now l.column l.place l.invariant _
    (c.kept.ensures ∙ ap (kept_by g.T.Stored.empty (get_or a.rests.now l.place 0)) (get_or_default l.column l.place _ g.T.Stored.empty within))
