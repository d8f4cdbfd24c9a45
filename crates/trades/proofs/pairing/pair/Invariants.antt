-- Invariant: `State`, the trades done and those still to come.
use Prim.Native.Nat.{◌+◌, ◌-◌}
use lib.ListN.{length}
use Rattle.queue.specs.RankNumbers.{along}
use Rattle.trades.proofs.Turns.{State}
use Rattle.trades.proofs.pairing.pair.Given as goal

abbrev pub invariant-loop-b : goal.invariant-loop-b
invariant-loop-b l = State (along l.numbers l.bids.ranks.now) l.bids.shares.now (along l.numbers l.asks.ranks.now) l.asks.shares.now l.price l.initial.list l.list l.b l.s l.k

abbrev pub decreases-loop-b : goal.decreases-loop-b
decreases-loop-b l = length l.bids.shares.now + length l.asks.shares.now - l.k
