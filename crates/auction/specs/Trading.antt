-- An auction from the columns of a book and the ranks of its queues: its outcome, its trades, and what rests at each place.
use Rattle.std.specs.Prelude.{ℕ, List, leb}
use Rattle.lists.specs.Ranking.{rank}
use Rattle.terms.specs.Bounds.{places}
use Rattle.terms.specs.declared.orders.{Side.Side, Side.TheVariants.Buy, Side.TheVariants.Sell, Auction.Auction}
use Rattle.book.specs.declared.Book.{Book}
use Rattle.queue.specs.RankNumbers.{ranks_from, along}
use Rattle.fills.specs.Shares.{shares_of, lessened}
use Rattle.price.specs.Search.{offered, searched_in}
use Rattle.trades.specs.declared.{Trade.Trade}
use Rattle.auction.specs.declared.{Outcome.Outcome}
use Rattle.auction.specs.declared.Held.{Held}
use Rattle.auction.specs.Decided.{outcome_from}
use Rattle.auction.specs.Ended.{ended}
use Rattle.trades.specs.OverShares.{paired_shares}

-- the ranks of those taking part on a side, best first, from the columns of a book
abbrev pub ranks_in : Auction → List ℕ → List ℕ → List ℕ → List ℕ → Side → List ℕ
ranks_in a sides validities limits numbers s = rank leb (ranks_from s a sides validities limits numbers 0 places)

abbrev pub ranks_on : Book → Auction → Side → List ℕ
ranks_on b a s = ranks_in a b.side b.validity b.limit b.number s

-- what a queue's orders get of a quantity
abbrev pub shares_in : ℕ → List ℕ → List ℕ → List ℕ
shares_in quantity lefts ranks = shares_of quantity (along lefts ranks)

-- the unlimited quantity of a queue
abbrev pub unlimited_in : Side → List ℕ → List ℕ → ℕ
unlimited_in s lefts ranks = offered s lefts ranks 0

unfoldable pub outcome_in : Held → ℕ → ℕ → List ℕ → List ℕ → List ℕ → List ℕ → Outcome
outcome_in held threshold reference limits lefts buys sells =
    outcome_from held threshold reference
    (searched_in reference (offered Buy lefts buys) (offered Sell lefts sells) (along limits buys) (along limits sells))
    (unlimited_in Buy lefts buys) (unlimited_in Sell lefts sells)

unfoldable pub trades_in : ℕ → List ℕ → List ℕ → List ℕ → List ℕ → List Trade
trades_in quantity numbers lefts buys sells = paired_shares numbers buys (shares_in quantity lefts buys) sells (shares_in quantity lefts sells)

-- what the trades leave at each place of a book, and what rests there
unfoldable pub left_in : ℕ → List ℕ → List ℕ → List ℕ → List ℕ
left_in quantity lefts buys sells = lessened sells (shares_in quantity lefts sells) (lessened buys (shares_in quantity lefts buys) lefts)

abbrev pub rests_in : Auction → ℕ → List ℕ → List ℕ → List ℕ → List ℕ → List ℕ
rests_in a quantity validities lefts buys sells = ended a validities (left_in quantity lefts buys sells)
