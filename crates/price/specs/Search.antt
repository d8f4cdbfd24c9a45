-- The search: candidates weighed one after the other, against the chain over all of them.
use Rattle.std.specs.Prelude.{ℕ, ◌+◌, min, max, Bool, cond, ◌&&◌, ◌||◌, List, [], ◌∷◌, eqb, ltb, get_or}
use Rattle.lists.specs.Sums.{apart}
use Rattle.terms.specs.declared.orders.{Side.Side}
use Rattle.queue.specs.RankNumbers.{rank_bound, place_of_rank}
use Rattle.price.specs.declared.weigh.{Weighed.Weighed}
use Rattle.price.specs.declared.search.{Found.Found}

-- one candidate alone, with its executable quantity and its difference
abbrev pub first_weighed : ℕ → ℕ → ℕ → Weighed
first_weighed price most least = record { most = most; least = least; high = price; low = price; near = price }

-- one more with the same executable quantity and difference
abbrev pub joined : ℕ → ℕ → Weighed → Weighed
joined reference price w = record {
  most = w.most;
  least = w.least;
  high = max w.high price;
  low = min w.low price;
  near = cond (ltb (apart reference price) (apart reference w.near)) price w.near;
}

-- steps 1 and 2: more is executed, or as much with a smaller difference
abbrev pub beats : ℕ → ℕ → Weighed → Bool
beats most least w = ltb w.most most || (eqb most w.most && ltb least w.least)

abbrev pub ties : ℕ → ℕ → Weighed → Bool
ties most least w = eqb most w.most && eqb least w.least

-- one more candidate, with demand and supply at it
unfoldable pub weighed : ℕ → ℕ → ℕ → ℕ → Weighed → Weighed
weighed reference price demand supply w =
    cond (beats (min demand supply) (apart demand supply) w)
    (first_weighed price (min demand supply) (apart demand supply))
    (cond (ties (min demand supply) (apart demand supply) w) (joined reference price w) w)

-- limits as candidates, one after the other; 0 is unlimited and none
abbrev pub weigh_limit : ℕ → (ℕ → ℕ) → (ℕ → ℕ) → ℕ → Weighed → Weighed
weigh_limit reference demand supply l w = cond (eqb l 0) w (weighed reference l (demand l) (supply l) w)

unfoldable pub weigh_all : ℕ → (ℕ → ℕ) → (ℕ → ℕ) → List ℕ → Weighed → Weighed
weigh_all reference demand supply [] w = w
weigh_all reference demand supply (l ∷ ls) w = weigh_all reference demand supply ls (weigh_limit reference demand supply l w)

-- steps 3 and 4: demand exceeds supply at all that are left where it does at the highest, and supply demand where it does at the lowest
abbrev pub found_in : (ℕ → ℕ) → (ℕ → ℕ) → Weighed → Found
found_in demand supply w = record {
  most = w.most;
  price = cond (ltb (supply w.high) (demand w.high)) w.high (cond (ltb (demand w.low) (supply w.low)) w.low w.near);
}

-- the reference price first, then the limits of the buys and of the sells
abbrev pub searched_in : ℕ → (ℕ → ℕ) → (ℕ → ℕ) → List ℕ → List ℕ → Found
searched_in reference demand supply bids asks =
    found_in demand supply
    (weigh_all reference demand supply asks
    (weigh_all reference demand supply bids
    (first_weighed reference (min (demand reference) (supply reference)) (apart (demand reference) (supply reference)))))

-- what the orders with the first ranks below a bound have open in all
unfoldable pub sum_below : ℕ → List ℕ → List ℕ → ℕ
sum_below bound lefts [] = 0
sum_below bound lefts (r ∷ ranks) = cond (ltb r bound) (get_or lefts (place_of_rank r) 0 + sum_below bound lefts ranks) 0

-- what a side offers at a price, by its ranks; at no price, 0, what its unlimited orders have open
abbrev pub offered : Side → List ℕ → List ℕ → ℕ → ℕ
offered s lefts ranks price = sum_below (rank_bound s price) lefts ranks
