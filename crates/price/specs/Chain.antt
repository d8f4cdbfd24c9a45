-- The chain: 01 "The price", steps 1 to 4, and why it leaves one price (B6).
use Rattle.std.specs.Prelude.{ℕ, Bool, true, false, cond, List, [], ◌∷◌, leb, ltb}
use Rattle.std.proofs.Math.Option.{Option, none, some}
use Rattle.lists.specs.Sums.{apart}
use Rattle.lists.specs.Choice.{all, leaders, smallest, largest}
use Rattle.terms.specs.Orders.{Resting}
use Rattle.price.specs.Interest.{demand, supply, executable, difference}
use Rattle.price.specs.Candidates.{candidates}

-- 1. Keep the candidates with the highest executable quantity.
-- 2. Of these keep the ones with the smallest difference between demand and supply.
abbrev pub kept : ℕ → List Resting → List ℕ
kept reference book = smallest (difference book) (largest (executable book) (candidates reference book))

abbrev pub demand_exceeds : List Resting → ℕ → Bool
demand_exceeds book p = ltb (supply book p) (demand book p)

abbrev pub supply_exceeds : List Resting → ℕ → Bool
supply_exceeds book p = ltb (demand book p) (supply book p)

-- 3. If demand exceeds supply at all of them, take the highest. If supply exceeds demand at all, take the lowest.
-- 4. Otherwise take the one nearest to the reference price.
abbrev pub preferred : Bool → Bool → ℕ → ℕ → ℕ → Bool
preferred true supply_at_all reference p q = leb q p
preferred false true reference p q = leb p q
preferred false false reference p q = leb (apart reference p) (apart reference q)

abbrev pub settled : ℕ → List Resting → List ℕ → List ℕ
settled reference book ps = leaders (preferred (all (demand_exceeds book) ps) (all (supply_exceeds book) ps) reference) ps

-- If the highest executable quantity is 0 there is no trade and no price.
abbrev pub tradable : List Resting → List ℕ → Option ℕ
tradable book [] = none
tradable book (p ∷ ps) = cond (ltb 0 (executable book p)) (some p) none

unfoldable pub auction_price : ℕ → List Resting → Option ℕ
auction_price reference book = tradable book (settled reference book (kept reference book))
