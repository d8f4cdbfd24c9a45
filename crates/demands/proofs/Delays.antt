-- A delay is given once: after a Delayed Opening no call in any sequence answers outcome 4 again (B9).
use Rattle.std.specs.Prelude.{ℕ, Bool, ◌&&◌, ◌≢◌, ◌≡◌, List, length}
use Rattle.std.proofs.Math.Bool.{true, false, true≢false}
use Rattle.std.proofs.Math.Path.{refl}
use Rattle.std.proofs.Common.{sym, arith}
use Rattle.std.proofs.Math.Dec.{T}
use Rattle.terms.specs.Orders.{auction_from}
use Rattle.terms.specs.declared.orders.{Auction.Auction, Auction.TheVariants.Opening, Auction.TheVariants.Closing}
use Rattle.auction.specs.declared.{Outcome.Outcome, Outcome.TheVariants.Traded, Outcome.TheVariants.NoTrade, Outcome.TheVariants.NonOpening, Outcome.TheVariants.Delayed}
use Rattle.auction.specs.Outcome.{reaches, outcome_number}
use Rattle.session.specs.declared.{Session.Session}
use Rattle.refusals.specs.Checks.{answered-cases}
use Rattle.courses.specs.Held.{delayable}
use Rattle.answers.specs.Auctions.{AuctionLeaves, outcome_of, session_after, auction_checks, auction_refused, auction_done, auctioned}
use Rattle.session.specs.State.{part}
use Rattle.demands.specs.Sequences.{Call, run}
use Rattle.demands.proofs.Outcomes.{decided}
use Rattle.demands.specs.Delays.{marked-run}

-- outcome 4 is answered by an auction that is done
module _ (s : Session) (which : ℕ) (list : List ℕ) where
  abbrev asked : Auction
  asked = auction_from which

  mark_set : (auctioned s which list).returned.result.outcome ≡ 4 → (auctioned s which list).returned.session.delayed ≡ true
  unfolding auctioned
  mark_set =
      answered-cases (auction_checks s which (length list)) (auction_refused s list) (auction_done s asked list)
      (λ (l : AuctionLeaves Session). l.returned.result.outcome ≡ 4 → l.returned.session.delayed ≡ true) (λ n h e i. absurd (omega arith)) (λ e. sets (outcome_of s asked))
    where
      sets : (o : Outcome) → outcome_number o ≡ 4 → (session_after s asked (part s asked) o).delayed ≡ true
      sets (Traded price quantity) h = absurd (omega arith)
      sets NoTrade h = absurd (omega arith)
      sets NonOpening h = absurd (omega arith)
      sets (Delayed price quantity) h = refl

  mark-spent : s.delayed ≡ true → (auctioned s which list).returned.result.outcome ≢ 4
  unfolding auctioned
  mark-spent marked =
      answered-cases (auction_checks s which (length list)) (auction_refused s list) (auction_done s asked list) (λ (l : AuctionLeaves Session). l.returned.result.outcome ≢ 4)
      (λ n h e i. omega arith)
      (λ e h. let (free, (p, found, delaying)) = (decided s asked).delayed.0 h in spent asked s.delayed s.parameters.threshold.0 s.reference.0 p marked delaying)
    where
      spent : (a : Auction) (d : Bool) (threshold reference price : ℕ) → d ≡ true → T (delayable a d && reaches threshold reference price) → ⊥
      spent Opening true threshold reference price i h = h
      spent Opening false threshold reference price i h = true≢false (sym i)
      spent Closing d threshold reference price i h = h

-- B9, once: after a Delayed Opening no call in any sequence answers outcome 4 again.
pub delayed-once : (s : Session) (which : ℕ) (list : List ℕ) → (auctioned s which list).returned.result.outcome ≡ 4
    → (cs : List Call) (again : ℕ) (lent : List ℕ) → (auctioned (run (auctioned s which list).returned.session cs) again lent).returned.result.outcome ≢ 4
delayed-once s which list h cs again lent =
    mark-spent (run (auctioned s which list).returned.session cs) again lent (marked-run (auctioned s which list).returned.session cs (mark_set s which list h))
