-- The auction from what its code learns on the way, for the promise of `auction`; the outcome and the trades counted also for the theoretical answer.
use Prim.Native.Nat.{ℕ}
use Rattle.std.specs.Prelude.{List}
use Rattle.terms.specs.declared.kinds.{Price.Price}
use Rattle.terms.specs.declared.orders.{Side.TheVariants.Buy, Side.TheVariants.Sell, Auction.Auction}
use Rattle.book.specs.declared.Book.{Book}
use Rattle.places.specs.Places.{behind_taken}
use Rattle.book.specs.Settling.{settled_to}
use Rattle.trades.specs.declared.{Trade.Trade}
use Rattle.auction.specs.Trading.{ranks_on, trades_in, rests_in}
use Rattle.session.specs.declared.{Session.Session}
use Rattle.controls.specs.Phases.{phase_after}
use Rattle.session.specs.State.{passed_on}
use Rattle.courses.specs.declared.{AuctionAnswer.AuctionAnswer, Course.Course, Standing.Standing}
use Rattle.courses.specs.Course.{answer_by, result_by, standing_by}
use Rattle.answers.specs.Auctions.{AuctionLeaves, auction_leaves}

-- the trades of a quantity and the book after them, told by the ranks of the session's book
abbrev pub trades_by : Session → Auction → ℕ → List Trade
trades_by s a quantity = trades_in quantity s.book.number s.book.left (ranks_on s.book a Buy) (ranks_on s.book a Sell)

abbrev pub settled_by : Session → Auction → ℕ → Book
settled_by s a quantity = settled_to (rests_in a quantity s.book.validity s.book.left (ranks_on s.book a Buy) (ranks_on s.book a Sell)) s.book (behind_taken s.book.taken)

-- the session with that book, in the next phase
abbrev pub closed_by : Session → Auction → ℕ → Price → Session
closed_by s a quantity reference = passed_on s (phase_after a) reference (settled_by s a quantity)

-- An auction from its course: what the code leaves.
abbrev pub standing_of : Session → Standing
standing_of s = record { phase = s.phase; delayed = s.delayed; reference = s.reference }

abbrev pub leaves_by : Session → Course → ℕ → Book → List ℕ → AuctionLeaves Session
leaves_by s course count book list =
    auction_leaves (record {
      answer = answer_by course;
      result = result_by course count;
      session = record {
        phase = (standing_by course (standing_of s)).phase;
        delayed = (standing_by course (standing_of s)).delayed;
        parameters = s.parameters;
        reference = (standing_by course (standing_of s)).reference;
        given = s.given;
        book = book;
      };
    }) list

-- What the code puts together in the end: the numbers by the course, what the session stands at, and the rest of the session as it is now.
abbrev pub leaves_as : ℕ → AuctionAnswer → Standing → Session → List ℕ → AuctionLeaves Session
leaves_as answer result standing now list =
    auction_leaves (record {
      answer = answer;
      result = result;
      session = record { phase = standing.phase; delayed = standing.delayed; parameters = now.parameters; reference = standing.reference; given = now.given; book = now.book };
    }) list
