-- A legal price: 01 "The price", "the price found is always a multiple of the step" (B7).
use Rattle.std.specs.Prelude.{ℕ, Bool, ◌≡◌, refl, List, [], ◌∷◌, T}
use Rattle.std.proofs.Math.Option.{some}
use mathlib.Core.List.Memᴰ
use Rattle.lists.specs.Sums.{◌∈◌}
use Rattle.terms.specs.Orders.{Resting, is_legal}
use Rattle.terms.specs.declared.kinds.{Price.Price}
use Rattle.terms.specs.declared.orders.{Limit.Limit, Limit.TheVariants.Unlimited, Limit.TheVariants.At}
use Rattle.price.specs.Candidates.{add_limit, limits, candidates}
use Rattle.price.specs.Chain.{auction_price}
use Rattle.price.proofs.Chain.{price-candidate}

limits-all : (P : ℕ → Type 0) (ask : Limit → Type 0) → ((p : Price) → ask (At p) → P p.0) → (book : List Resting) → ((o : Resting) → o ∈ book → ask o.limit) → (p : ℕ) → p ∈ limits book → P p
limits-all P ask told [] h p m = absurd (Memᴰ.not-nil m)
limits-all P ask told (o ∷ os) h p m = go o.limit (h o (Memᴰ.head refl)) (limits-all P ask told os (λ x n. h x (Memᴰ.tail n)) p) m
  where
    go : (w : Limit) → ask w → (p ∈ limits os → P p) → p ∈ add_limit w (limits os) → P p
    go Unlimited k below m = below m
    go (At l) k below (Memᴰ.head e) = rw e (told l k)
    go (At l) k below (Memᴰ.tail m) = below m

-- every candidate is legal, where the limits and the reference price are ..
pub candidates-legal : (legal : ℕ → Bool) (reference : ℕ) (book : List Resting) → T (legal reference) → ((o : Resting) → o ∈ book → T (is_legal legal o.limit))
    → (p : ℕ) → p ∈ candidates reference book → T (legal p)
candidates-legal legal reference book r h p (Memᴰ.head i) = rw i r
candidates-legal legal reference book r h p (Memᴰ.tail m) = limits-all (λ p. T (legal p)) (λ w. T (is_legal legal w)) (λ p k. k) book h p m

-- .. and so is the auction price (B7)
pub price-legal : (legal : ℕ → Bool) (reference : ℕ) (book : List Resting) → T (legal reference) → ((o : Resting) → o ∈ book → T (is_legal legal o.limit))
    → (p : ℕ) → auction_price reference book ≡ some p → T (legal p)
price-legal legal reference book r h p e = candidates-legal legal reference book r h p (price-candidate reference book p e)
