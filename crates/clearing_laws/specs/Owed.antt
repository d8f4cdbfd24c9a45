-- "Who owes whom" (02 K5): after every run of calls the square is the sum worked out from the list of all trades so far (K5a), and all its cells
-- together equal the sum of the quantities of all auctions of outcome 1 (K5b).
use Rattle.std.specs.Prelude.{ℕ, ◌≤◌, ◌<◌, ◌⊎◌, ◌≡◌, List}
use Rattle.lists.specs.Sums.{◌∈◌}
use Rattle.terms.specs.declared.orders.{Side.Side}
use Rattle.trades.specs.declared.{Trade.Trade}
use Rattle.trades.specs.Trades.{party}
use Rattle.squares.specs.Square.{square_members}
use Rattle.desk.specs.declared.{Desk.Desk}
use Rattle.desk.specs.Desk.{row_in}
use Rattle.desk_auction.specs.Auctions.{row_of_order}
use Rattle.clearing_laws.specs.Runs.{Deal, owed, member_at, cell_at}

-- ---- members and rows
-- a member that is entered has a row
abbrev pub IsEntered : Desk → ℕ → Type 0
IsEntered d m = (i : ℕ) × (i < d.count) × (member_at d i ≡ m)

-- ---- an auction: its trades are added
-- trades between members that are entered, in the book before the auction
abbrev pub Between : Desk → List Trade → Type 0
Between d ts = (side : Side) (t : Trade) → t ∈ ts → row_of_order d (party side t) < d.count

-- K5a. The square of a desk and the list of all trades so far: each cell of two members entered is the sum worked out from that list, every other
-- cell is 0, and only members entered traded.
pub record Owes (d : Desk) (deals : List Deal) : Type 0 where
  pub of_two : (i j : ℕ) → i < d.count → j < d.count → cell_at d i j ≡ owed (member_at d i) (member_at d j) deals
  pub of-no-two : (i j : ℕ) → i < square_members → j < square_members → (d.count ≤ i) ⊎ (d.count ≤ j) → cell_at d i j ≡ 0
  pub traders : (x : Deal) → x ∈ deals → (row_in d x.buyer < d.count) × (row_in d x.seller < d.count)
