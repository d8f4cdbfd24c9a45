-- Worked examples: the outcomes, the trades of 01 "Session file", and what leaves the book.
use Rattle.std.specs.Prelude.{ℕ, true, false, List, [], ◌∷◌}
use Rattle.lists.specs.Sums.{apart}
use Rattle.terms.specs.Samples.{buy, sell}
use Rattle.terms.specs.Orders.{Resting}
use Rattle.queue.specs.Rank.{ranked}
use Rattle.price.specs.Interest.{interest}
use Rattle.price.specs.Candidates.{most_executable}
use Rattle.price.specs.Chain.{auction_price}
use Rattle.trades.specs.declared.{Trade.Trade}
use Rattle.auction.specs.declared.{Outcome.Outcome}
use Rattle.trades.specs.Trades.{traded}
use Rattle.trades.specs.TradesOf.{fills, trades_of}
use Rattle.auction.specs.declared.Held.{Held}
use Rattle.auction.specs.Outcome.{non_opening, outcome}
use Rattle.auction.specs.After.{rest_of}

unfoldable pub computing : Unit {0}
unfolding apart interest most_executable auction_price ranked fills trades_of traded non_opening outcome rest_of
computing = tt

-- threshold 150, reference 100,000
abbrev pub outcome_on : Held → List Resting → Outcome
outcome_on held book = outcome held 150 100_000 book

abbrev pub held_by_both : Held
held_by_both = record { preventable = true; delayable = true }

abbrev pub held_by_unlimited : Held
held_by_unlimited = record { preventable = true; delayable = false }

-- the trades of the worked file: order 2 has the better limit, then order 1 the lower number
abbrev pub worked_book : List Resting
worked_book = buy 1 50 100_200 ∷ buy 2 50 100_400 ∷ buy 3 50 100_200 ∷ sell 4 80 100_200 ∷ []

abbrev pub trade : ℕ → ℕ → ℕ → Trade
trade b s q = record { buy = b; sell = s; quantity = q }
