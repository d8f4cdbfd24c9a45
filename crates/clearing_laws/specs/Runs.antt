-- A run of calls of a desk, who bought of whom in it, and the square's cells (02 K5).
use Rattle.std.specs.Prelude.{ℕ, ◌+◌, ◌&&◌, List, [], ◌∷◌, ◌++◌, map, eqb, get_or}
use Rattle.lists.specs.Sums.{counted, sum}
use Rattle.book.specs.Resting.{resting}
use Rattle.trades.specs.declared.{Trade.Trade}
use Rattle.trades.specs.Written.{trades_read}
use Rattle.squares.specs.Square.{square_of}
use Rattle.answers.specs.Auctions.{AuctionLeaves}
use Rattle.desk.specs.declared.{Desk.Desk}
use Rattle.desk.specs.Calls.{started, entered, quoted, deleted}
use Rattle.desk_auction.specs.Auctions.{member_of, auctioned}
use Rattle.demands.specs.Sequences.{Act, Call}

-- the desk after a call, and after a list of calls, one after the other; one that only looks leaves it
abbrev pub acted : Desk → Act → Desk
acted d (Act.start x) = (started d x).session
acted d (Act.order e) = (entered d e).session
acted d (Act.delete number member) = (deleted d number member).session
acted d (Act.quote e) = (quoted d e).session
acted d (Act.auction which list) = (auctioned d which list).returned.session

abbrev pub after : Desk → Call → Desk
after d (Call.act c) = acted d c
after d (Call.look l) = d

abbrev pub run : Desk → List Call → Desk
run d [] = d
run d (c ∷ cs) = run (after d c) cs

-- a trade by its members
pub record Deal : Type 0 where
  pub buyer : ℕ
  pub seller : ℕ
  pub quantity : ℕ

-- the members that its orders have in the book before the auction
abbrev pub deal_of : Desk → Trade → Deal
deal_of d t = record {
  buyer = member_of (resting d.session.book) t.buy;
  seller = member_of (resting d.session.book) t.sell;
  quantity = t.quantity;
}

-- the trades that an auction of a desk wrote to its list, read back
abbrev pub listed : AuctionLeaves Desk → List Trade
listed l = trades_read l.returned.result.count l.list

-- the trades of a call by their members, and all of a run: only auctions trade
abbrev pub dealt_by : Desk → Act → List Deal
dealt_by d (Act.start x) = []
dealt_by d (Act.order e) = []
dealt_by d (Act.delete number member) = []
dealt_by d (Act.quote e) = []
dealt_by d (Act.auction which list) = map (deal_of d) (listed (auctioned d which list))

abbrev pub dealt : Desk → Call → List Deal
dealt d (Call.act c) = dealt_by d c
dealt d (Call.look l) = []

abbrev pub deals_so_far : Desk → List Call → List Deal
deals_so_far d [] = []
deals_so_far d (c ∷ cs) = dealt d c ++ deals_so_far (after d c) cs

-- what one member bought of another, worked out from a list of trades
abbrev pub owed_by : ℕ → ℕ → Deal → ℕ
owed_by buyer seller x = counted (eqb x.buyer buyer && eqb x.seller seller) x.quantity

abbrev pub owed : ℕ → ℕ → List Deal → ℕ
owed buyer seller deals = sum (owed_by buyer seller) deals

-- the member of a row, and a cell of the square as it is handed out
abbrev pub member_at : Desk → ℕ → ℕ
member_at d i = get_or d.members i 0

abbrev pub cell_at : Desk → ℕ → ℕ → ℕ
cell_at d i j = get_or (get_or (square_of d.totals) i []) j 0

-- the quantity of an auction of outcome 1, and those of a run together
abbrev pub quantity_of : AuctionLeaves Desk → ℕ
quantity_of l = counted (eqb l.returned.answer 0 && eqb l.returned.result.outcome 1) l.returned.result.quantity

abbrev pub traded_by : Desk → Act → ℕ
traded_by d (Act.start x) = 0
traded_by d (Act.order e) = 0
traded_by d (Act.delete number member) = 0
traded_by d (Act.quote e) = 0
traded_by d (Act.auction which list) = quantity_of (auctioned d which list)

abbrev pub quantity_traded : Desk → Call → ℕ
quantity_traded d (Call.act c) = traded_by d c
quantity_traded d (Call.look l) = 0

abbrev pub traded_so_far : Desk → List Call → ℕ
traded_so_far d [] = 0
traded_so_far d (c ∷ cs) = quantity_traded d c + traded_so_far (after d c) cs
