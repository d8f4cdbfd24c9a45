-- An auction of a desk tells the same trades and leaves the same desk whatever numbers the lent list held before.
use Rattle.std.specs.Prelude.{ℕ, ◌≤◌, ◌≡◌, refl, List, length}
use Rattle.std.proofs.Common.{sym, ◌∙◌}
use Rattle.std.proofs.Math.Path.{ap}
use Rattle.std.proofs.lemmas.List.{length-replicate}
use Rattle.terms.specs.Bounds.{max_trades, trade_list_length}
use Rattle.trades.specs.Written.{trades_read}
use Rattle.squares.specs.Square.{added_to}
use Rattle.records.specs.declared.{kinds.Record.Record}
use Rattle.answers.specs.declared.{Auctioned.Auctioned}
use Rattle.answers.specs.Auctions as plain
use Rattle.answers.specs.Auctions.{AuctionLeaves, auction_leaves}
use Rattle.transcript.specs.Transcript.{Step, step, lent}
use Rattle.transcript.specs.Lent.{auction-step, auction-count}
use Rattle.desk.specs.declared.{Desk.Desk}
use Rattle.desk.specs.Desk.{with_totals}
use Rattle.desk_auction.specs.Auctions.{auctioned, row_of_order, plain-leaves}
use Rattle.desk_steps.specs.Steps.{DeskStep, auction_told, desk_step}

-- a plain step told of a desk: its session inside, its trades in their cells
abbrev cleared : Desk → Step → DeskStep
cleared d t = record { desk = with_totals d t.session (added_to (row_of_order d) t.trades d.totals); told = t }

-- the step of an auction whose trades are read from the list
abbrev step_read : AuctionLeaves Desk → DeskStep
step_read l = auction_told l.returned (trades_read l.returned.result.count l.list)

module _ (d : Desk) (which : ℕ) where
  read-cleared : (list : List ℕ) → length list ≡ trade_list_length → step_read (auctioned d which list) ≡ cleared d (step d.session (Record.Auction which))
  unfolding auctioned
  read-cleared list h =
      let l = plain.auctioned d.session which list in
      ap (cleared d) (auction-step d.session which list l.list l.returned h refl)

  -- .. so from the list that the definition lends, too
  as_lent : desk_step d (Record.Auction which) ≡ cleared d (step d.session (Record.Auction which))
  unfolding auctioned
  as_lent =
      ap (λ (after : Desk). record { desk = after; told = step d.session (Record.Auction which) })
      (ap (λ (x : DeskStep). x.desk) (read-cleared lent (length-replicate {A = ℕ} trade_list_length 0)))

  pub auction-told : (list left : List ℕ) (r : Auctioned Desk) → length list ≡ trade_list_length → auction_leaves r left ≡ auctioned d which list
      → auction_told r (trades_read r.result.count left) ≡ desk_step d (Record.Auction which)
  auction-told list left r h e = ap step_read e ∙ read-cleared list h ∙ sym as_lent

  pub few-trades : (list left : List ℕ) (r : Auctioned Desk) → auction_leaves r left ≡ auctioned d which list → r.result.count ≤ max_trades
  few-trades list left r e = auction-count d.session which list left _ (plain-leaves d which list r left e)
