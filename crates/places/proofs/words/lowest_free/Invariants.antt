-- The loop's invariant: every place of the words passed is taken.
use Rattle.std.proofs.Common.{◌*◌}
use Rattle.places.specs.Words.{FullTo}
use Rattle.places.proofs.words.lowest_free.Given as goal

abbrev pub invariant-loop-j : goal.invariant-loop-j
invariant-loop-j l = FullTo l.taken (l.j * 64)
