-- An auction from the columns of a book and the ranks of its queues: its outcome, its trades, and what rests at each place.
use Rattle.std.specs.Prelude.{ℕ, ◌+◌, ◌-◌, ◌≤◌, ◌≡◌, List, leb, length, take, drop}
use Rattle.std.proofs.Common.{arith}
use Rattle.lists.specs.Ranking.{Ranked}
use Rattle.lists.specs.Ascending.{numbers-ranked}
use Rattle.terms.specs.Bounds.{places}
use Rattle.terms.specs.declared.orders.{Side.Side, Auction.Auction}
use Rattle.queue.specs.RankNumbers.{ranks_from}
use Rattle.queue.proofs.Placing.{ranks-length}
use Rattle.auction.specs.Trading.{ranks_in}

-- there are no more ranks than places, and they ascend
module _ (a : Auction) (sides validities limits numbers : List ℕ) (s : Side) where
  pub ranks-few : length (ranks_in a sides validities limits numbers s) ≤ places
  ranks-few = ranks-length s a sides validities limits numbers

  pub ranks-ascend : Ranked leb (ranks_in a sides validities limits numbers s)
  ranks-ascend = numbers-ranked (ranks_from s a sides validities limits numbers 0 places)

-- of one list with the ranks of both sides, the part behind the first ones
pub asks-part : (bids asks : ℕ) (both : List ℕ) → take (bids + asks - bids) (drop bids both) ≡ take asks (drop bids both)
asks-part bids asks both = let e : bids + asks - bids ≡ asks = omega arith in rw e
