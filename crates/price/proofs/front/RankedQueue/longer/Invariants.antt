-- The loop's invariant: a front, to which the next order is added.
use Prim.Native.Nat.{◌-◌}
use lib.ListN.{length}
use Rattle.price.specs.Below.{IsFront}
use Rattle.price.proofs.front.RankedQueue.longer.Given as goal

abbrev pub invariant-loop-count : goal.invariant-loop-count
invariant-loop-count l = IsFront l.self.book.now.left l.self.ranks.now l.count l.total

abbrev pub decreases-loop-count : goal.decreases-loop-count
decreases-loop-count l = length l.self.ranks.now - l.count
