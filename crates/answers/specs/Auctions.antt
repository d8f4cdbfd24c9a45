-- The auction: what the call returns and leaves, refusals included.
use Rattle.std.specs.Prelude.{ℕ, List, [], length}
use Rattle.terms.specs.Orders.{Resting, auction_from}
use Rattle.terms.specs.declared.kinds.{Price.Price}
use Rattle.terms.specs.declared.orders.{Auction.Auction}
use Rattle.book.specs.Resting.{changed}
use Rattle.trades.specs.declared.{Trade.Trade}
use Rattle.auction.specs.declared.{Outcome.Outcome, Outcome.TheVariants.Traded, Outcome.TheVariants.NoTrade, Outcome.TheVariants.NonOpening, Outcome.TheVariants.Delayed}
use Rattle.auction.specs.declared.Held.{Held}
use Rattle.auction.specs.Outcome.{outcome, trades, price_answered}
use Rattle.auction.specs.After.{rest_of}
use Rattle.trades.specs.Written.{trades_written}
use Rattle.session.specs.declared.{Session.Session}
use Rattle.courses.specs.Held.{preventable, delayable}
use Rattle.courses.specs.Answer.{no_answer, answer_of}
use Rattle.answers.specs.declared.{Auctioned.Auctioned}
use Rattle.controls.specs.Phases.{phase_after}
use Rattle.session.specs.State.{part, passed_on, delay_given}
use Rattle.refusals.specs.Checks.{Check, answered}
use Rattle.refusals.specs.Rows.{auction_rows}

-- what may hold the auction back, the outcome at this moment, and its trades
abbrev pub held_by : Session → Auction → Held
held_by s a = record { preventable = preventable a; delayable = delayable a s.delayed }

unfoldable pub outcome_of : Session → Auction → Outcome
outcome_of s a = outcome (held_by s a) s.parameters.threshold.0 s.reference.0 (part s a)

abbrev pub trades_now : Session → Auction → List Trade
trades_now s a = trades (outcome_of s a) (part s a)

-- outcomes 1 and 2: the trades leave the book, the ended validities too, and the phase goes on
abbrev pub closed_out : Session → Auction → List Trade → Price → Session
closed_out s a done reference = passed_on s (phase_after a) reference (changed (rest_of a done) s.book)

-- the session after an outcome; with outcome 1 the price becomes the reference price, with outcome 3 nothing changes
abbrev pub session_after : Session → Auction → List Resting → Outcome → Session
session_after s a book (Traded price quantity) = closed_out s a (trades (Traded price quantity) book) (record { 0 = price })
session_after s a book NoTrade = closed_out s a [] s.reference
session_after s a book NonOpening = s
session_after s a book (Delayed price quantity) = delay_given s

-- Auction: 1, 2, 4, 12.
abbrev pub auction_checks : Session → ℕ → ℕ → List Check
auction_checks s which size = auction_rows s.phase which size

-- what the call returns, and the lent list as it leaves it
pub record AuctionLeaves (S : Type 0) : Type 0 where
  pub returned : Auctioned S
  pub list : List ℕ

abbrev pub auction_leaves : {S : Type 0} → Auctioned S → List ℕ → AuctionLeaves S
auction_leaves returned list = record { returned = returned; list = list }

abbrev pub auction_refused : Session → List ℕ → ℕ → AuctionLeaves Session
auction_refused s list n = record { returned = record { answer = n; result = no_answer; session = s }; list = list }

abbrev pub auction_done : Session → Auction → List ℕ → AuctionLeaves Session
auction_done s a list = record {
  returned = record { answer = 0; result = answer_of (outcome_of s a) (part s a); session = session_after s a (part s a) (outcome_of s a) };
  list = trades_written (price_answered (outcome_of s a)) (trades_now s a) list;
}

unfoldable pub auctioned : Session → ℕ → List ℕ → AuctionLeaves Session
auctioned s which list = answered (auction_checks s which (length list)) (auction_refused s list) (auction_done s (auction_from which) list)
