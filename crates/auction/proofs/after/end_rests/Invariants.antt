-- The loop's invariant: what rests is found at the places before the one reached.
use mathlib.Core.Path.{◌≡◌}
use Rattle.auction.specs.Ended.{ended_to}
use Rattle.auction.proofs.after.end_rests.Given as goal

abbrev pub invariant-loop-place : goal.invariant-loop-place
invariant-loop-place l = l.lefts ≡ ended_to l.auction l.validities l.initial.lefts l.place
