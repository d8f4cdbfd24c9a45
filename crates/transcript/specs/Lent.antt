-- An auction's trades are read from the list that it wrote them to, whatever numbers that list held before.
use Rattle.std.specs.Prelude.{ℕ, zero, suc, ◌*◌, ◌≤◌, ◌≡◌, refl, List, [], length, drop}
use Rattle.std.proofs.Common.{sym, ap, ◌∙◌, subst, arith}
use Rattle.std.proofs.lemmas.List.{length-replicate}
use Rattle.terms.specs.Bounds.{numbers_per_trade, max_trades, trade_list_length}
use Rattle.terms.specs.Orders.{auction_from}
use Rattle.terms.specs.declared.orders.{Auction.Auction}
use Rattle.trades.specs.declared.{Trade.Trade}
use Rattle.auction.specs.Outcome.{price_answered}
use Rattle.trades.specs.Written.{trades_read}
use Rattle.trades.proofs.Written.{trades-back}
use Rattle.session.specs.declared.{Session.Session}
use Rattle.answers.specs.declared.{Auctioned.Auctioned}
use Rattle.refusals.specs.Checks.{Check, first_hit, answered_by, answered, answered-cases}
use Rattle.answers.specs.Auctions.{AuctionLeaves, outcome_of, trades_now, auction_checks, auction_leaves, auction_refused, auction_done, auctioned}
use Rattle.records.specs.declared.{kinds.Record.Record}
use Rattle.transcript.specs.Transcript.{Step, step, auction_step, lent, trades_answered}
use Rattle.transcript.specs.Steps.{trades-few}

-- the step of an auction whose trades are read from the list
abbrev step_read : AuctionLeaves Session → Step
step_read l = auction_step l.returned (trades_read l.returned.result.count l.list)

-- an auction that is done, read so; the answer doesn't depend on what the list held
read_done : (s : Session) (a : Auction) (list other : List ℕ) → step_read (auction_done s a list) ≡ auction_step (auction_done s a other).returned (trades_now s a)
read_done s a list other =
    ap (λ (ts : List Trade). auction_step (auction_done s a list).returned ts)
    (trades-back (price_answered (outcome_of s a)) (trades_now s a) (drop (numbers_per_trade * length (trades_now s a)) list))

module _ (s : Session) (which : ℕ) (list other : List ℕ) where
  same : (checks : List Check)
      → step_read (answered checks (auction_refused s list) (auction_done s (auction_from which) list))
      ≡ auction_step (answered checks (auction_refused s other) (auction_done s (auction_from which) other)).returned (answered checks (λ n. []) (trades_now s (auction_from which)))
  same checks = go (first_hit checks) where
    go : (n : ℕ)
        → step_read (answered_by n (auction_refused s list) (auction_done s (auction_from which) list))
        ≡ auction_step (answered_by n (auction_refused s other) (auction_done s (auction_from which) other)).returned (answered_by n (λ m. []) (trades_now s (auction_from which)))
    go zero = read_done s (auction_from which) list other
    go (suc n) = refl

  as_long : length list ≡ length other → length other ≡ trade_list_length → step_read (auctioned s which list) ≡ auction_step (auctioned s which other).returned (trades_answered s which)
  unfolding auctioned
  as_long h k = rw (h, k) (same (auction_checks s which trade_list_length))

pub auction-step : (s : Session) (which : ℕ) (list left : List ℕ) (r : Auctioned Session) → length list ≡ trade_list_length → auction_leaves r left ≡ auctioned s which list
    → auction_step r (trades_read r.result.count left) ≡ step s (Record.Auction which)
auction-step s which list left r h e =
    let long = length-replicate {A = ℕ} trade_list_length 0 in
    ap step_read e ∙ as_long s which list lent (h ∙ sym long) long

pub auction-count : (s : Session) (which : ℕ) (list left : List ℕ) (r : Auctioned Session) → auction_leaves r left ≡ auctioned s which list → r.result.count ≤ max_trades
unfolding auctioned
auction-count s which list left r e =
    subst (λ (l : AuctionLeaves Session). l.returned.result.count ≤ max_trades) (sym e)
    (answered-cases (auction_checks s which (length list)) (auction_refused s list) (auction_done s (auction_from which) list) (λ (l : AuctionLeaves Session). l.returned.result.count ≤ max_trades)
    (λ n h i. omega arith) (λ i. trades-few s (auction_from which)))
