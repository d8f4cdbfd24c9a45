-- Invariant: the first i trades are renamed, and the rest of the list is as it was.
use mathlib.Core.Path.{◌≡◌}
use lib.ListN.{get_or}
use Rattle.squares.specs.Naming.{renamed}
use Rattle.squares.proofs.name_orders.Given as goal

abbrev pub invariant-loop-i : goal.invariant-loop-i
invariant-loop-i l = l.list ≡ renamed (λ p. get_or l.numbers p 0) l.i l.initial.list
