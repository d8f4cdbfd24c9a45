-- The outcome from what the search found: the highest executable quantity, the price, and the unlimited quantities of both sides.
use Rattle.std.specs.Prelude.{ℕ, ◌<◌, cond, ◌&&◌, ◌≡◌, refl, List, eqb}
use Rattle.std.proofs.Math.Option.{Option, none, some}
use Rattle.std.proofs.Common.{◌∙◌, arith, eq-eqb, ne_eqb}
use Rattle.terms.specs.Orders.{Resting}
use Rattle.terms.specs.declared.orders.{Side.TheVariants.Buy, Side.TheVariants.Sell}
use Rattle.price.specs.declared.search.{Found.Found}
use Rattle.price.specs.Candidates.{most_executable}
use Rattle.price.specs.Chain.{auction_price}
use Rattle.price.proofs.Chain.{price-some, price-most, no-price-most}
use Rattle.auction.specs.declared.{Outcome.TheVariants.Traded, Outcome.TheVariants.NoTrade, Outcome.TheVariants.Delayed}
use Rattle.auction.specs.declared.Held.{Held}
use Rattle.auction.specs.Outcome.{unlimited, exceeds, non_opening, prevented, delays, priced, outcome}
use Rattle.auction.specs.Decided.{outcome_from}

prevented-same : (held : Held) (reference : ℕ) (book : List Resting) {most buys sells : ℕ} → most ≡ most_executable reference book → buys ≡ unlimited Buy book → sells ≡ unlimited Sell book
    → (held.preventable && exceeds most buys sells) ≡ prevented held reference book
unfolding non_opening
prevented-same held reference book m e f = rw (m, e, f)

-- Where that is what the book has, the outcome is the book's.
module _ (held : Held) (threshold reference : ℕ) (book : List Resting) (found : Found) where
  priced-same : found.most ≡ most_executable reference book → (0 < most_executable reference book → auction_price reference book ≡ some found.price)
      → (r : Option ℕ) → auction_price reference book ≡ r
      → cond (eqb found.most 0) NoTrade (cond (delays held threshold reference found.price) (Delayed found.price found.most) (Traded found.price found.most))
      ≡ priced held threshold reference book r
  priced-same most price none e = rw (eq-eqb found.most 0 (most ∙ no-price-most reference book e))
  priced-same most price (some p) e =
      let (listed, trades) = (price-some reference book p).0 e in
      let same = price-most reference book p e in
      let again = price (omega arith) in
      let i : found.price ≡ p = cc in
      rw (ne_eqb found.most 0 (λ z. omega arith), i, most, same)

  pub decided : (buys sells : ℕ) → found.most ≡ most_executable reference book
      → (0 < most_executable reference book → auction_price reference book ≡ some found.price)
      → buys ≡ unlimited Buy book → sells ≡ unlimited Sell book
      → outcome_from held threshold reference found buys sells ≡ outcome held threshold reference book
  unfolding outcome_from outcome
  decided buys sells most price e f = rw (prevented-same held reference book most e f, priced-same most price (auction_price reference book) refl)
