-- The loop's invariant: the words from j on have no taken place.
use Rattle.std.proofs.Common.{◌≡◌}
use Rattle.places.specs.Places.{words_taken}
use Rattle.places.proofs.words.behind_taken.Given as goal

abbrev pub invariant-loop-j : goal.invariant-loop-j
invariant-loop-j l = words_taken l.taken 8 ≡ words_taken l.taken l.j
