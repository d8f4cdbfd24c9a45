-- The loop's invariant: the places before the one reached are free where nothing rests.
use Rattle.std.proofs.Common.{◌≡◌}
use Rattle.book.specs.Settling.{words_to}
use Rattle.book.proofs.settling.settle_words.Given as goal

abbrev pub invariant-loop-place : goal.invariant-loop-place
invariant-loop-place l = l.taken ≡ words_to l.rests l.initial.taken l.place
