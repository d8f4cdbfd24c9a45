-- "Could more have traded?" (C1 to C6) in one statement, over every sequence of calls from a fresh session (A6).
use Rattle.std.specs.Prelude.{ℕ, ◌⊎◌, ◌↔◌, ◌≡◌, List}
use Rattle.terms.specs.declared.orders.{Auction.Auction, Auction.TheVariants.Opening, Auction.TheVariants.Closing}
use Rattle.auction.specs.NonOpening.{Fillable, FillableAt}
use Rattle.session.specs.declared.{Session.Session}
use Rattle.session.specs.Sound.{legal_price}
use Rattle.answers.specs.Auctions.{AuctionLeaves}
use Rattle.session.specs.State.{part}
use Rattle.demands.specs.Auctioned.{TookPlace, NoListMovesMore, BoughtIsSold, NobodyPassedOver, NothingLeft, ListWritten}

-- C5, of either auction: an opening has outcome 3 exactly when no list, at any price or at any legal one, fills every unlimited order taking
-- part; a closing has outcome 1 or 2.
abbrev pub PreventedExactly : Session → Auction → AuctionLeaves Session → Type 0
PreventedExactly s Opening l =
    ((l.returned.result.outcome ≡ 3) ↔ (Fillable (part s Opening) → ⊥)) × ((l.returned.result.outcome ≡ 3) ↔ (FillableAt (legal_price s) (part s Opening) → ⊥))
PreventedExactly s Closing l = (l.returned.result.outcome ≡ 1) ⊎ (l.returned.result.outcome ≡ 2)

-- C1 to C6 of what an auction leaves, in this order; C5 whatever its outcome, the others where it is not held back.
pub record AllThatCouldTrade (s : Session) (a : Auction) (list : List ℕ) (l : AuctionLeaves Session) : Type 0 where
  pub moves-most : TookPlace l → NoListMovesMore s a l
  pub bought-is-sold : TookPlace l → BoughtIsSold s a l
  pub nobody-passed-over : TookPlace l → NobodyPassedOver s a l
  pub nothing_left : TookPlace l → NothingLeft s a l
  pub prevented-exactly : PreventedExactly s a l
  pub list_written : TookPlace l → ListWritten s a list l
