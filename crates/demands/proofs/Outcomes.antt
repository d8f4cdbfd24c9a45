-- The outcome that an auction's call answers: what each number means and what it changes (B9).
use Rattle.std.specs.Prelude.{ℕ, Bool, true, false, cond, ◌≡◌, refl, List}
use Rattle.std.proofs.Math.Option.{Option, none, some, none-ne-some, some-injective}
use Rattle.std.proofs.Common.{⊎_elim, sym, ◌∙◌, arith}
use Rattle.terms.specs.Orders.{auction_number}
use Rattle.terms.specs.declared.orders.{Auction.Auction}
use Rattle.price.specs.Interest.{executable}
use Rattle.auction.specs.declared.{Outcome.TheVariants.Traded, Outcome.TheVariants.NonOpening, Outcome.TheVariants.Delayed}
use Rattle.auction.specs.Outcome.{outcome, priced}
use Rattle.session.specs.declared.{Session.Session}
use Rattle.courses.specs.Answer.{answer_of}
use Rattle.answers.specs.Auctions.{held_by, outcome_of, auctioned}
use Rattle.session.specs.State.{part}
use Rattle.demands.specs.Outcomes.{OutcomesInOrder, carried-out, is_delayed, is_prevented, price_of}

-- in the order of the definition
pub decided : (s : Session) (a : Auction) → OutcomesInOrder s a (answer_of (outcome_of s a) (part s a))
unfolding outcome_of outcome
decided s a = prevents (is_prevented s a) refl
  where
    delaying : (p : ℕ) → is_prevented s a ≡ false → price_of s a ≡ some p → (b : Bool) → is_delayed s a p ≡ b
        → OutcomesInOrder s a (answer_of (cond b (Delayed p (executable (part s a) p)) (Traded p (executable (part s a) p))) (part s a))
    delaying p e f true g = record {
      non-opening = ((λ i. absurd (omega arith)), (λ h. absurd (rw e at h)));
      delayed = ((λ i. (rw e tt, (p, f, rw g tt))), (λ x. refl));
      traded = ((λ i. absurd (omega arith)), (λ (h, (q, i, j)). absurd (rw (some-injective q p (sym i ∙ f), g) at j)));
      no-trade = ((λ i. absurd (omega arith)), (λ (h, i). absurd (none-ne-some p (sym i ∙ f))));
      priced = λ i. (f, refl);
      zeros = ⊎_elim (λ i. absurd (omega arith)) (λ i. absurd (omega arith));
      no-trades = λ i. refl;
    }
    delaying p e f false g = record {
      non-opening = ((λ i. absurd (omega arith)), (λ h. absurd (rw e at h)));
      delayed = ((λ i. absurd (omega arith)), (λ (h, (q, i, j)). absurd (rw (some-injective q p (sym i ∙ f), g) at j)));
      traded = ((λ i. (rw e tt, (p, f, rw g tt))), (λ x. refl));
      no-trade = ((λ i. absurd (omega arith)), (λ (h, i). absurd (none-ne-some p (sym i ∙ f))));
      priced = λ i. (f, refl);
      zeros = ⊎_elim (λ i. absurd (omega arith)) (λ i. absurd (omega arith));
      no-trades = λ i. absurd (i refl);
    }

    pricing : is_prevented s a ≡ false → (found : Option ℕ) → price_of s a ≡ found
        → OutcomesInOrder s a (answer_of (priced (held_by s a) s.parameters.threshold.0 s.reference.0 (part s a) found) (part s a))
    pricing e none f = record {
      non-opening = ((λ i. absurd (omega arith)), (λ h. absurd (rw e at h)));
      delayed = ((λ i. absurd (omega arith)), (λ (h, (q, i, j)). absurd (none-ne-some q (sym f ∙ i))));
      traded = ((λ i. absurd (omega arith)), (λ (h, (q, i, j)). absurd (none-ne-some q (sym f ∙ i))));
      no-trade = ((λ i. (rw e tt, f)), (λ x. refl));
      priced = ⊎_elim (λ i. absurd (omega arith)) (λ i. absurd (omega arith));
      zeros = λ i. (refl, refl);
      no-trades = λ i. refl;
    }
    pricing e (some p) f = delaying p e f (is_delayed s a p) refl

    prevents : (b : Bool) → is_prevented s a ≡ b
        → OutcomesInOrder s a (answer_of (cond b NonOpening (priced (held_by s a) s.parameters.threshold.0 s.reference.0 (part s a) (price_of s a))) (part s a))
    prevents true e = record {
      non-opening = ((λ i. rw e tt), (λ h. refl));
      delayed = ((λ i. absurd (omega arith)), (λ (h, x). absurd (rw e at h)));
      traded = ((λ i. absurd (omega arith)), (λ (h, x). absurd (rw e at h)));
      no-trade = ((λ i. absurd (omega arith)), (λ (h, x). absurd (rw e at h)));
      priced = ⊎_elim (λ i. absurd (omega arith)) (λ i. absurd (omega arith));
      zeros = λ i. (refl, refl);
      no-trades = λ i. refl;
    }
    prevents false e = pricing e (price_of s a) refl

pub outcomes-in-order : (s : Session) (a : Auction) (list : List ℕ) → (auctioned s (auction_number a) list).returned.answer ≡ 0
    → OutcomesInOrder s a (auctioned s (auction_number a) list).returned.result
outcomes-in-order s a list accepted = rw (carried-out s a list accepted).leaves (decided s a)
