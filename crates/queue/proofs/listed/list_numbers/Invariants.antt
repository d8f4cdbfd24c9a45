-- Invariant: the numbers of the first i orders stand at the front of the list, and the rest is as it was.
use mathlib.Core.Path.{◌≡◌}
use mathlib.Core.List.{◌++◌}
use lib.ListN.{take, drop}
use Rattle.queue.specs.RankNumbers.{along}
use Rattle.queue.proofs.listed.list_numbers.Given as goal

abbrev pub invariant-loop-i : goal.invariant-loop-i
invariant-loop-i l = l.list ≡ take l.i (along l.numbers l.ranks) ++ drop l.i l.initial.list
