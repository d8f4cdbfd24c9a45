-- Shares are the quantities of `fill`, and a column less the shares has less by what the orders are filled with.
use Rattle.std.specs.Prelude.{ℕ, zero, suc, ◌-◌, ◌<◌, min, Bool, true, false, ◌≡◌, refl, List, [], ◌∷◌, map, eqb, length, get_or, set, take}
use Rattle.std.proofs.Common.{sym, ap, ◌∙◌, arith, eqb-true, length-set, get_or-set_same, get_or-set_other}
use mathlib.Core.List.Memᴰ
use Rattle.std.proofs.lemmas.Bool.{eqb-false}
use Rattle.lists.specs.Sums.{◌∈◌, counted}
use Rattle.terms.specs.Orders.{Resting}
use Rattle.queue.specs.RankNumbers.{place_of_rank}
use Rattle.fills.specs.Fill.{fill, filled_by, has_number}
use Rattle.fills.specs.Shares.{shares_of, lessened}
use Rattle.fills.specs.ShareFills.{shared_at}

pub shares-fill : (total : ℕ) (os : List Resting) → shares_of total (map (λ o. o.left) os) ≡ map (λ x. x.quantity) (fill total os)
unfolding shares_of
shares-fill total [] = refl
shares-fill zero (o ∷ os) = refl
shares-fill (suc total) (o ∷ os) = ap (λ (l : List ℕ). min (suc total) o.left ∷ l) (shares-fill (suc total - o.left) os)

-- those filled are the first of the queue
pub fill-orders : (total : ℕ) (os : List Resting) → map (λ x. x.order) (fill total os) ≡ take (length (fill total os)) os
fill-orders total [] = refl
fill-orders zero (o ∷ os) = refl
fill-orders (suc total) (o ∷ os) = ap (λ (l : List Resting). o ∷ l) (fill-orders (suc total - o.left) os)

pub lessened-length : (ranks shares lefts : List ℕ) → length (lessened ranks shares lefts) ≡ length lefts
unfolding lessened
lessened-length [] shares lefts = refl
lessened-length (r ∷ ranks) [] lefts = refl
lessened-length (r ∷ ranks) (q ∷ shares) lefts = lessened-length ranks shares (set lefts (place_of_rank r) _) ∙ length-set lefts (place_of_rank r) _

-- one place less a share
less-at : (lefts : List ℕ) (place p q : ℕ) → p < length lefts → get_or (set lefts place (get_or lefts place 0 - q)) p 0 ≡ get_or lefts p 0 - counted (eqb place p) q
less-at lefts place p q h = go (eqb place p) refl
  where
    go : (b : Bool) → eqb place p ≡ b → get_or (set lefts place (get_or lefts place 0 - q)) p 0 ≡ get_or lefts p 0 - counted b q
    go true e = rw (eqb-true place p e) (get_or-set_same lefts p (get_or lefts p 0 - q) 0 h)
    go false e = get_or-set_other lefts place p (get_or lefts place 0 - q) 0 (λ d. eqb-false place p e (sym d)) ∙ omega arith

pub lessened-at : (ranks shares lefts : List ℕ) (p : ℕ) → p < length lefts → get_or (lessened ranks shares lefts) p 0 ≡ get_or lefts p 0 - shared_at ranks shares p
unfolding lessened shared_at
lessened-at [] shares lefts p h = omega arith
lessened-at (r ∷ ranks) [] lefts p h = omega arith
lessened-at (r ∷ ranks) (q ∷ shares) lefts p h =
    let place = place_of_rank r in
    omega (
      arith,
      lessened-at ranks shares (set lefts place (get_or lefts place 0 - q)) p (omega (arith, length-set lefts place (get_or lefts place 0 - q))),
      less-at lefts place p q h,
    )

-- Where the orders of the ranks are told apart by place as by number, the shares at a place are what its order is filled with.
pub shared-at-fill : (b-order : ℕ → Resting) (ranks : List ℕ) (p n : ℕ) (total : ℕ)
    → ((r : ℕ) → r ∈ ranks → eqb (place_of_rank r) p ≡ eqb (b-order r).number n)
    → shared_at ranks (shares_of total (map (λ r. (b-order r).left) ranks)) p ≡ filled_by (has_number n) (fill total (map b-order ranks))
unfolding shared_at shares_of
shared-at-fill b-order [] p n total h = refl
shared-at-fill b-order (r ∷ ranks) p n zero h = refl
shared-at-fill b-order (r ∷ ranks) p n (suc total) h =
    rw (h r (Memᴰ.head refl), shared-at-fill b-order ranks p n (suc total - (b-order r).left) (λ s m. h s (Memᴰ.tail m)))
