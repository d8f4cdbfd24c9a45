-- The loop's invariant: a front behind which no rank is below the bound.
use Prim.Native.Nat.{◌<◌, ◌≤◌}
use lib.ListN.{length, get_or}
use Rattle.price.specs.Below.{IsFront}
use Rattle.price.proofs.front.RankedQueue.shorter.Given as goal

abbrev pub invariant-loop-count : goal.invariant-loop-count
invariant-loop-count l = IsFront l.self.book.now.left l.self.ranks.now l.count l.total × (l.count < length l.self.ranks.now → l.bound ≤ get_or l.self.ranks.now l.count 0)

abbrev pub decreases-loop-count : goal.decreases-loop-count
decreases-loop-count l = l.count
