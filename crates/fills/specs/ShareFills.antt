-- Shares are the quantities of `fill`, and a column less the shares has less by what the orders are filled with.
use Rattle.std.specs.Prelude.{ℕ, ◌+◌, List, [], ◌∷◌, eqb}
use Rattle.lists.specs.Sums.{counted}
use Rattle.queue.specs.RankNumbers.{place_of_rank}

-- what the shares at the place p come to
unfoldable pub shared_at : List ℕ → List ℕ → ℕ → ℕ
shared_at [] shares p = 0
shared_at (r ∷ ranks) [] p = 0
shared_at (r ∷ ranks) (q ∷ shares) p = counted (eqb (place_of_rank r) p) q + shared_at ranks shares p
