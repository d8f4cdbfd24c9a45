use Rattle.std.proofs.Common.{rules}
use Rattle.book.specs.Settling.{left_to, left-next}
use Rattle.book.proofs.settling.settle_left.Goals as goal

pub loop-place-init : goal.loop-place-init
unfolding left_to
loop-place-init c = search rules

pub loop-place-preserved : goal.loop-place-preserved
loop-place-preserved c =
    let a = c.args in
    left-next a.rests.now a.lefts.now c.loop-place.lefts c.loop-place.place c.loop-place.invariant
