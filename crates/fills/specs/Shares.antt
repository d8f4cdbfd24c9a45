-- Shares along a queue, over its open quantities alone: what each order gets of a total.
use Rattle.std.specs.Prelude.{ℕ, zero, suc, ◌-◌, min, List, [], ◌∷◌, get_or, set}
use Rattle.queue.specs.RankNumbers.{place_of_rank}

-- the quantities of `fill`
unfoldable pub shares_of : ℕ → List ℕ → List ℕ
shares_of total [] = []
shares_of zero (x ∷ xs) = []
shares_of (suc total) (x ∷ xs) = min (suc total) x ∷ shares_of (suc total - x) xs

-- a column of open quantities less the shares of a queue's orders
unfoldable pub lessened : List ℕ → List ℕ → List ℕ → List ℕ
lessened [] shares lefts = lefts
lessened (r ∷ ranks) [] lefts = lefts
lessened (r ∷ ranks) (q ∷ shares) lefts = lessened ranks shares (set lefts (place_of_rank r) (get_or lefts (place_of_rank r) 0 - q))
