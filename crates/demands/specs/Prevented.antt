-- Non Opening, of the outcome that is answered: exactly when no trade list, at any price or at any legal one, fills every unlimited order; a closing is never prevented (C5).
use Rattle.std.specs.Prelude.{ℕ, ◌⊎◌, ◌≡◌, refl, List, T}
use Rattle.std.proofs.Common.{inl, inr}
use Rattle.terms.specs.Orders.{auction_number}
use Rattle.terms.specs.declared.orders.{Auction.TheVariants.Closing}
use Rattle.book.specs.Resting.{resting}
use Rattle.auction.specs.declared.{Outcome.Outcome, Outcome.TheVariants.Traded, Outcome.TheVariants.NoTrade, Outcome.TheVariants.NonOpening, Outcome.TheVariants.Delayed}
use Rattle.auction.specs.Outcome.{outcome_number, takes_place}
use Rattle.session.specs.declared.{Session.Session}
use Rattle.answers.specs.Auctions.{outcome_of, auctioned}
use Rattle.demands.specs.Traded.{every-closing-takes-place}
use Rattle.demands.specs.Outcomes.{carried-out}

-- .. and a closing has outcome 1 or 2 only
pub closing-carried-out : (s : Session) (list : List ℕ) → (auctioned s (auction_number Closing) list).returned.answer ≡ 0
    → ((auctioned s (auction_number Closing) list).returned.result.outcome ≡ 1) ⊎ ((auctioned s (auction_number Closing) list).returned.result.outcome ≡ 2)
unfolding outcome_of
closing-carried-out s list accepted =
    rw (carried-out s Closing list accepted).leaves
    (one_of_two (outcome_of s Closing) (every-closing-takes-place s s.parameters.threshold.0 s.reference.0 (resting s.book)))
  where
    one_of_two : (o : Outcome) → T (takes_place o) → (outcome_number o ≡ 1) ⊎ (outcome_number o ≡ 2)
    one_of_two (Traded price quantity) h = inl refl
    one_of_two NoTrade h = inr refl
    one_of_two NonOpening h = absurd h
    one_of_two (Delayed price quantity) h = absurd h
