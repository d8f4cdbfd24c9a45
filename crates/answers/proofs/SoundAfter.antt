-- An auction hands Sound on: what rests of a sound order is sound, the price is legal, the phase goes on (A3).
use Rattle.std.specs.Prelude.{ℕ, ◌≡◌, refl, List, T, length}
use Rattle.std.proofs.Common.{arith}
use Rattle.lists.specs.Tests.{test-holds}
use Rattle.terms.specs.Kinds.{is_price}
use Rattle.terms.specs.Orders.{auction_from}
use Rattle.terms.specs.declared.kinds.{Price.Price}
use Rattle.terms.specs.declared.orders.{Auction.Auction, Auction.TheVariants.Opening, Auction.TheVariants.Closing}
use Rattle.queue.proofs.Part.{taking_part-elim}
use Rattle.queue.proofs.Reach.{resting-sound}
use Rattle.book.specs.Changed.{changed-book-sound}
use Rattle.book.specs.Resting.{resting, changed}
use Rattle.price.proofs.Legal.{price-legal}
use Rattle.trades.specs.declared.{Trade.Trade}
use Rattle.auction.specs.declared.{Outcome.Outcome, Outcome.TheVariants.Traded, Outcome.TheVariants.NoTrade, Outcome.TheVariants.NonOpening, Outcome.TheVariants.Delayed}
use Rattle.auction.specs.Outcome.{trades}
use Rattle.auction.proofs.OutcomeLaws.{outcome-traded}
use Rattle.auction.specs.After.{rest_of}
use Rattle.auction.proofs.AfterLaws.{rest-keeps}
use Rattle.controls.specs.declared.phases.{Phase.TheVariants.Fresh}
use Rattle.session.specs.declared.{Session.Session}
use Rattle.controls.specs.Phases.{has_started, phase_after}
use Rattle.refusals.specs.Checks.{answered-cases}
use Rattle.refusals.specs.Exactly.{clear}
use Rattle.session.specs.Sound.{legal_price, legal-in-range, Sound, passed-on-sound, delay-given-sound}
use Rattle.answers.specs.Auctions.{AuctionLeaves, held_by, outcome_of, closed_out, session_after, auction_checks, auction_refused, auction_done, auctioned}
use Rattle.session.specs.State.{part}

later-phase : (a : Auction) → phase_after a ≡ Fresh → ⊥
later-phase Opening e = let z : ◌≡◌ {A = ℕ} 0 1 = cc in omega arith
later-phase Closing e = let z : ◌≡◌ {A = ℕ} 0 1 = cc in omega arith

module _ (s : Session) (sound : Sound s) (a : Auction) where
  closed-sound : (done : List Trade) (reference : Price) → T (legal_price s reference.0) → Sound (closed_out s a done reference)
  closed-sound done reference legal =
      passed-on-sound s sound (phase_after a) (later-phase a) reference legal (changed (rest_of a done) s.book)
      (changed-book-sound (legal_price s) s.given (rest_of a done) (rest-keeps (legal_price s) s.given a done) s.book sound.book-sound)

  -- the price of an outcome is legal (B7)
  pub traded-legal : (price quantity : ℕ) → outcome_of s a ≡ Traded price quantity → T (legal_price s price)
  unfolding outcome_of
  traded-legal price quantity e =
      price-legal (legal_price s) s.reference.0 (part s a) sound.reference-holds
      (λ o m. (resting-sound (legal_price s) s.given s.book sound.book-sound o (taking_part-elim a (resting s.book) m).0).limit-legal)
      price (outcome-traded (held_by s a) s.parameters.threshold.0 s.reference.0 (part s a) price quantity e).0

  pub traded-price : (price quantity : ℕ) → outcome_of s a ≡ Traded price quantity → T (is_price price)
  traded-price price quantity e = legal-in-range s price (traded-legal price quantity e)

  after-sound : T (has_started s.phase) → (o : Outcome) → outcome_of s a ≡ o → Sound (session_after s a (part s a) o)
  after-sound running (Traded price quantity) e = closed-sound (trades (Traded price quantity) (part s a)) (record { 0 = price }) (traded-legal price quantity e)
  after-sound running NoTrade e = closed-sound (trades NoTrade (part s a)) s.reference sound.reference-holds
  after-sound running NonOpening e = sound
  after-sound running (Delayed price quantity) e = delay-given-sound s sound running

-- Auction hands it on.
pub auctioned-sound : (s : Session) (which : ℕ) (list : List ℕ) → Sound s → Sound (auctioned s which list).returned.session
unfolding auctioned
auctioned-sound s which list sound =
    answered-cases (auction_checks s which (length list)) (auction_refused s list) (auction_done s (auction_from which) list) (λ (l : AuctionLeaves Session). Sound l.returned.session) (λ n h e. sound)
    (λ e. after-sound s sound (auction_from which) (test-holds (has_started s.phase) (clear (auction_checks s which (length list)) tt e 2)) (outcome_of s (auction_from which)) refl)
