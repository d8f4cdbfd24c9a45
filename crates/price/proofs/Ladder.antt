-- The ladder: what a ranked queue's first orders have open is what its side offers, since those whose limits allow a price are a front part.
use Prim.Native.Nat.{ℕ, ◌+◌}
use Rattle.std.specs.Prelude.{Bool, true, false, cond, ◌&&◌, ◌≡◌, T, ltb, get_or}
use Rattle.std.proofs.Math.Path.{refl}
use Rattle.std.proofs.Common.{sym, ◌∙◌, arith}
use mathlib.Core.List.Memᴰ
use mathlib.Core.List.{List, [], ◌∷◌, map}
use Rattle.lists.specs.Sums.{◌∈◌, counted, counted-and, sum, sum_same}
use Rattle.terms.specs.Orders.{Resting}
use Rattle.terms.specs.declared.orders.{Side.Side}
use Rattle.queue.specs.Sides.{allows}
use Rattle.queue.specs.Distinct.{Distinct}
use Rattle.fills.specs.Fill.{FrontPart}
use Rattle.fills.proofs.Fill.{none_pass, ranked-front}
use Rattle.queue.specs.Rank.{on_side, ranked}
use Rattle.queue.proofs.Rank.{ranked-sum, ranked-in-order}
use Rattle.queue.specs.RankNumbers.{rank_bound, place_of_rank}
use Rattle.price.specs.Interest.{interest}
use Rattle.price.proofs.Interest.{allows-ahead}
use Rattle.price.specs.Search.{sum_below, offered}

-- What the orders with ranks below the bound have open, where they are those that pass the test.
module _ (f : Resting → Bool) (bound : ℕ) (lefts : List ℕ) (order_of : ℕ → Resting) (lies : (r : ℕ) → get_or lefts (place_of_rank r) 0 ≡ (order_of r).left) where
  pub sum-below-front : (ranks : List ℕ) → ((r : ℕ) → r ∈ ranks → ltb r bound ≡ f (order_of r)) → FrontPart f (map order_of ranks)
      → sum_below bound lefts ranks ≡ sum (λ o. counted (f o) o.left) (map order_of ranks)
  unfolding sum_below
  sum-below-front [] same front = refl
  sum-below-front (r ∷ ranks) same (first, front) =
      rw (same r (Memᴰ.head refl)) (go (f (order_of r)) first (sum-below-front ranks (λ x m. same x (Memᴰ.tail m)) front))
    where
      rest : ℕ
      rest = sum (λ o. counted (f o) o.left) (map order_of ranks)

      go : (b : Bool) → ((x : Resting) → x ∈ map order_of ranks → T (f x) → T b) → sum_below bound lefts ranks ≡ rest
          → cond b (get_or lefts (place_of_rank r) 0 + sum_below bound lefts ranks) 0 ≡ counted b (order_of r).left + rest
      go true h e = omega (arith, lies r)
      go false h e = omega (arith, none_pass f (map order_of ranks) h)

-- What a side offers at a price by its ranks is its interest there.
pub offered-is-interest : (s : Side) (p : ℕ) (book : List Resting) → Distinct book → (lefts : List ℕ) (order_of : ℕ → Resting) (ranks : List ℕ)
    → ((r : ℕ) → get_or lefts (place_of_rank r) 0 ≡ (order_of r).left)
    → map order_of ranks ≡ ranked s book
    → ((r : ℕ) → r ∈ ranks → ltb r (rank_bound s p) ≡ allows s p (order_of r).limit)
    → offered s lefts ranks p ≡ interest s p book
unfolding interest
offered-is-interest s p book d lefts order_of ranks lies queue same =
    sum-below-front fits (rank_bound s p) lefts order_of lies ranks same (rw queue (ranked-front s fits (allows-ahead s p) (ranked s book) (ranked-in-order s book d)))
    ∙ rw queue (ranked-sum s book (λ o. counted (fits o) o.left)
    ∙ sum_same (λ o. counted (on_side s o) (counted (fits o) o.left)) (λ o. counted (on_side s o && fits o) o.left) book (λ o m. sym (counted-and (on_side s o) (fits o) o.left)))
  where
    fits : Resting → Bool
    fits o = allows s p o.limit
