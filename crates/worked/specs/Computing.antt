-- Computing: every definition that stays shut by itself, so that a worked example can say `unfolding computing` and hold by `refl`.
use Rattle.terms.specs.Tables.{row_of, on_step, is_table}
use Rattle.lists.specs.Sums.{apart}
use Rattle.places.specs.Places.{bit, least, total, marked, unmarked}
use Rattle.book.specs.Columns.{stored, cleared}
use Rattle.book.specs.Resting.{resting_to, first_of, changed_to}
use Rattle.queue.specs.Part.{taking_part}
use Rattle.queue.specs.Rank.{ranked}
use Rattle.fills.specs.Front.{front}
use Rattle.price.specs.Interest.{interest}
use Rattle.price.specs.Candidates.{most_executable}
use Rattle.price.specs.Chain.{auction_price}
use Rattle.trades.specs.Trades.{traded}
use Rattle.trades.specs.TradesOf.{fills, trades_of}
use Rattle.auction.specs.Outcome.{non_opening, outcome}
use Rattle.auction.specs.After.{rest_of}
use Rattle.refusals.specs.Checks.{first_hit}
use Rattle.entries.specs.Entry.{started, entered, deleted}
use Rattle.quotation.specs.Quote.{quoted}
use Rattle.answers.specs.Auctions.{outcome_of, auctioned}
use Rattle.foresight.specs.Theoretical.{theoretical}
use Rattle.standings.specs.Queues.{queued, filled_front}

unfoldable pub computing : Unit {0}
unfolding is_table row_of on_step apart bit least total marked unmarked stored cleared resting_to first_of changed_to taking_part ranked front interest most_executable auction_price traded fills trades_of non_opening outcome rest_of first_hit started entered deleted quoted outcome_of auctioned theoretical queued filled_front
computing = tt
