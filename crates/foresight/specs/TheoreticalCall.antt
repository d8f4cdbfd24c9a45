-- The theoretical answer from what its code learns on the way, for the promise of `theoretical`.
use Rattle.std.specs.Prelude.{ℕ, true, false, ◌≢◌, ◌≡◌, List, Result, Ok, Err}
use Rattle.std.proofs.Common.{sym, ◌∙◌, arith}
use Rattle.terms.specs.Orders.{is_auction, auction_from}
use Rattle.terms.specs.declared.orders.{Auction.Auction}
use Rattle.refusals.specs.Checks.{Check, first_hit, answered-refused, answered-done, hits, passes}
use Rattle.refusals.specs.Rows.{theoretical_later}
use Rattle.session.specs.declared.{Session.Session}
use Rattle.session.specs.State.{part}
use Rattle.courses.specs.declared.{AuctionAnswer.AuctionAnswer}
use Rattle.courses.specs.Answer.{answer_of}
use Rattle.answers.specs.Auctions.{outcome_of}
use Rattle.foresight.specs.declared.{Foreseen.Foreseen}
use Rattle.foresight.specs.Theoretical.{theoretical_checks, theoretical_refused, theoretical_done, theoretical}

-- what is returned where it is foreseen, or refused with a number
abbrev pub foreseen_by : Result AuctionAnswer ℕ → Foreseen
foreseen_by (Ok result) = record { answer = 0; result = result }
foreseen_by (Err n) = theoretical_refused n

module _ (s : Session) (which : ℕ) where
  abbrev foresights : List Check
  foresights = theoretical_checks s which

  pub theoretical-out-of-range : is_auction which ≡ false → theoretical_refused 1 ≡ theoretical s which
  unfolding theoretical
  theoretical-out-of-range h = answered-refused foresights theoretical_refused _ (hits 1 _ (rw h)) (λ z. omega arith)

  module _ {a : Auction} (good : (is_auction which ≡ true) × (a ≡ auction_from which)) {n : ℕ} (hit : n ≡ first_hit (theoretical_later s.phase a)) where
    theoretical-hit : n ≡ first_hit foresights
    theoretical-hit = passes 1 _ (rw good.0) (rw good.1 at hit)

    pub theoretical-turned-down : n ≢ 0 → theoretical_refused n ≡ theoretical s which
    unfolding theoretical
    theoretical-turned-down h = answered-refused foresights theoretical_refused _ theoretical-hit h

    pub theoretical-foreseen : n ≡ 0 → {result : AuctionAnswer} → result ≡ answer_of (outcome_of s a) (part s a) → record { answer = 0; result = result } ≡ theoretical s which
    unfolding theoretical
    theoretical-foreseen z e = rw (e, good.1) (answered-done foresights theoretical_refused (theoretical_done s (auction_from which)) (sym z ∙ theoretical-hit))
