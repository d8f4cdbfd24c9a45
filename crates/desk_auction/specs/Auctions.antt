-- The auction of a desk (02 K5): the session's, and its trades in their cells.
use Rattle.std.specs.Prelude.{ℕ, cond, ◌≡◌, List, [], ◌∷◌, eqb}
use Rattle.std.proofs.Common.{ap}
use Rattle.terms.specs.Orders.{Resting}
use Rattle.book.specs.Resting.{resting}
use Rattle.trades.specs.declared.{Trade.Trade}
use Rattle.trades.specs.Written.{trades_read}
use Rattle.squares.specs.Square.{added_to}
use Rattle.desk.specs.declared.{Desk.Desk}
use Rattle.desk.specs.Desk.{row_in, with_totals}
use Rattle.session.specs.declared.{Session.Session}
use Rattle.answers.specs.declared.{Auctioned.Auctioned}
use Rattle.answers.specs.Auctions as plain
use Rattle.answers.specs.Auctions.{AuctionLeaves, auction_leaves}

-- the member that the order of a number has
abbrev pub member_of : List Resting → ℕ → ℕ
member_of [] number = 0
member_of (o ∷ os) number = cond (eqb o.number number) o.member (member_of os number)

-- .. and its row, in the book before the auction
abbrev pub row_of_order : Desk → ℕ → ℕ
row_of_order d number = row_in d (member_of (resting d.session.book) number)

-- the trades that an auction wrote to its list, read back
abbrev pub trades_listed : AuctionLeaves Session → List Trade
trades_listed l = trades_read l.returned.result.count l.list

-- the answer, the list and the session are the session's own; each trade listed is added to the cell of its orders' members
abbrev pub cleared_by : Desk → AuctionLeaves Session → AuctionLeaves Desk
cleared_by d l = record {
  returned = record {
    answer = l.returned.answer;
    result = l.returned.result;
    session = with_totals d l.returned.session (added_to (row_of_order d) (trades_listed l) d.totals);
  };
  list = l.list;
}

unfoldable pub auctioned : Desk → ℕ → List ℕ → AuctionLeaves Desk
auctioned d which list = cleared_by d (plain.auctioned d.session which list)

-- what a desk's auction leaves is what the session's leaves
pub plain-leaves : (d : Desk) (which : ℕ) (list : List ℕ) (r : Auctioned Desk) (left : List ℕ) → auction_leaves r left ≡ auctioned d which list
    → auction_leaves (record { answer = r.answer; result = r.result; session = r.session.session }) left ≡ plain.auctioned d.session which list
unfolding auctioned
plain-leaves d which list r left e = ap (λ (l : AuctionLeaves Desk). auction_leaves (record { answer = l.returned.answer; result = l.returned.result; session = l.returned.session.session }) l.list) e
