-- Non Opening, of the outcome that is answered: exactly when no trade list, at any price or at any legal one, fills every unlimited order; a closing is never prevented (C5).
use Rattle.std.specs.Prelude.{ℕ, ◌↔◌, ◌≡◌, List}
use Rattle.terms.specs.Orders.{auction_number}
use Rattle.terms.specs.declared.orders.{Auction.TheVariants.Opening}
use Rattle.book.specs.Resting.{resting}
use Rattle.queue.proofs.Part.{taking_part-elim, taking_part-distinct}
use Rattle.queue.proofs.Reach.{resting-sound}
use Rattle.auction.specs.NonOpening.{Fillable, FillableAt}
use Rattle.auction.proofs.NonOpening.{non-opening-exactly, fillable-legally}
use Rattle.session.specs.declared.{Session.Session}
use Rattle.session.specs.Sound.{legal_price, Sound}
use Rattle.session.specs.State.{part}
use Rattle.answers.specs.Auctions.{auctioned}
use Rattle.demands.specs.Traded.{sound-ranged}
use Rattle.demands.proofs.Outcomes.{outcomes-in-order}

-- C5. Non Opening exactly when no trade list at any price fills every unlimited order taking part ..
pub opening-prevented : (s : Session) → Sound s → (list : List ℕ) → (auctioned s (auction_number Opening) list).returned.answer ≡ 0
    → ((auctioned s (auction_number Opening) list).returned.result.outcome ≡ 3) ↔ (Fillable (part s Opening) → ⊥)
opening-prevented s sound list accepted =
    let number = (outcomes-in-order s Opening list accepted).non-opening in
    let exactly = non-opening-exactly s.reference.0 (part s Opening) (taking_part-distinct Opening (resting s.book) (sound-ranged s sound).distinct) in
    ((λ e. exactly.0 (number.0 e)), (λ no. number.1 (exactly.1 no)))

-- .. with "price" as any natural number above, and here as a price of 1 to 100,000,000 on its step by the table ..
pub opening-prevented-legally : (s : Session) → Sound s → (list : List ℕ) → (auctioned s (auction_number Opening) list).returned.answer ≡ 0
    → ((auctioned s (auction_number Opening) list).returned.result.outcome ≡ 3) ↔ (FillableAt (legal_price s) (part s Opening) → ⊥)
opening-prevented-legally s sound list accepted =
    let any-price = opening-prevented s sound list accepted in
    let same =
    fillable-legally (legal_price s) s.reference.0 (part s Opening) (taking_part-distinct Opening (resting s.book) (sound-ranged s sound).distinct) sound.reference-holds
    (λ o m. (resting-sound (legal_price s) s.given s.book sound.book-sound o (taking_part-elim Opening (resting s.book) m).0).limit-legal) in
    ((λ e f. any-price.0 e (same.1 f)), (λ no. any-price.1 (λ f. no (same.0 f))))
