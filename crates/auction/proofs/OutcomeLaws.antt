-- The outcome: 01 "Outcomes", in its order. `book` is the list of orders taking part.
use Rattle.std.specs.Prelude.{ℕ, Bool, ◌↔◌, refl, List}
use Rattle.std.proofs.Math.Bool.{true, false, cond}
use Rattle.std.proofs.Math.Option.{Option, none, some}
use Rattle.std.proofs.Math.Path.{◌≡◌}
use Rattle.std.proofs.Common.{ap, arith}
use Rattle.std.proofs.Math.Dec.{T}
use Rattle.terms.specs.Orders.{Resting}
use Rattle.price.specs.Interest.{executable}
use Rattle.price.specs.Chain.{auction_price}
use Rattle.auction.specs.declared.{Outcome.TheVariants.Traded, Outcome.TheVariants.NoTrade, Outcome.TheVariants.NonOpening, Outcome.TheVariants.Delayed}
use Rattle.auction.specs.declared.Held.{Held}
use Rattle.auction.specs.Outcome.{delays, outcome, prevented, priced, takes_place, unheld}

-- What an outcome says of the price.
module _ (held : Held) (threshold reference : ℕ) (book : List Resting) where
  priced-traded : (found : Option ℕ) (p q : ℕ) → priced held threshold reference book found ≡ Traded p q → (found ≡ some p) × (q ≡ executable book p)
  priced-traded none p q e = let z : ◌≡◌ {A = ℕ} 0 1 = cc in absurd (omega arith)
  priced-traded (some r) p q e = go (delays held threshold reference r) e
    where
      go : (b : Bool) → cond b (Delayed r (executable book r)) (Traded r (executable book r)) ≡ Traded p q → (◌≡◌ {A = Option ℕ} (some r) (some p)) × (q ≡ executable book p)
      go true e = let z : ◌≡◌ {A = ℕ} 0 1 = cc in absurd (omega arith)
      go false e = let i : r ≡ p = cc in (ap some i, cc)

  priced-no-trade : (found : Option ℕ) → priced held threshold reference book found ≡ NoTrade → found ≡ none
  priced-no-trade none e = refl
  priced-no-trade (some r) e = go (delays held threshold reference r) e
    where
      go : (b : Bool) → cond b (Delayed r (executable book r)) (Traded r (executable book r)) ≡ NoTrade → ◌≡◌ {A = Option ℕ} (some r) none
      go true e = let z : ◌≡◌ {A = ℕ} 0 1 = cc in absurd (omega arith)
      go false e = let z : ◌≡◌ {A = ℕ} 0 1 = cc in absurd (omega arith)

  -- outcome 1 is at the auction price, for what is executable there
  pub outcome-traded : (p q : ℕ) → outcome held threshold reference book ≡ Traded p q → (auction_price reference book ≡ some p) × (q ≡ executable book p)
  unfolding outcome
  outcome-traded p q e = go (prevented held reference book) e
    where
      go : (b : Bool) → cond b NonOpening (priced held threshold reference book (auction_price reference book)) ≡ Traded p q → (auction_price reference book ≡ some p) × (q ≡ executable book p)
      go true e = let z : ◌≡◌ {A = ℕ} 0 1 = cc in absurd (omega arith)
      go false e = priced-traded (auction_price reference book) p q e

  -- outcome 2 is where there is no price
  pub outcome-no-trade : outcome held threshold reference book ≡ NoTrade → auction_price reference book ≡ none
  unfolding outcome
  outcome-no-trade e = go (prevented held reference book) e
    where
      go : (b : Bool) → cond b NonOpening (priced held threshold reference book (auction_price reference book)) ≡ NoTrade → auction_price reference book ≡ none
      go true e = let z : ◌≡◌ {A = ℕ} 0 1 = cc in absurd (omega arith)
      go false e = priced-no-trade (auction_price reference book) e

  priced-opens : (found : Option ℕ) → priced held threshold reference book found ≡ NonOpening → ⊥
  priced-opens none e = let z : ◌≡◌ {A = ℕ} 0 1 = cc in omega arith
  priced-opens (some r) e = go (delays held threshold reference r) e
    where
      go : (b : Bool) → cond b (Delayed r (executable book r)) (Traded r (executable book r)) ≡ NonOpening → ⊥
      go true e = let z : ◌≡◌ {A = ℕ} 0 1 = cc in omega arith
      go false e = let z : ◌≡◌ {A = ℕ} 0 1 = cc in omega arith

  -- outcome 3 exactly where unlimited orders prevent the auction
  pub outcome-prevented : (outcome held threshold reference book ≡ NonOpening) ↔ T (prevented held reference book)
  unfolding outcome
  outcome-prevented = (to (prevented held reference book), from (prevented held reference book))
    where
      to : (b : Bool) → cond b NonOpening (priced held threshold reference book (auction_price reference book)) ≡ NonOpening → T b
      to true e = tt
      to false e = absurd (priced-opens (auction_price reference book) e)

      from : (b : Bool) → T b → cond b NonOpening (priced held threshold reference book (auction_price reference book)) ≡ NonOpening
      from true h = refl
      from false h = absurd h

-- an auction that nothing may hold back has outcome 1 or 2 only
pub unheld-takes-place : (threshold reference : ℕ) (book : List Resting) → T (takes_place (outcome unheld threshold reference book))
unfolding outcome
unheld-takes-place threshold reference book = go (auction_price reference book)
  where
    go : (found : Option ℕ) → T (takes_place (priced unheld threshold reference book found))
    go none = tt
    go (some p) = tt
