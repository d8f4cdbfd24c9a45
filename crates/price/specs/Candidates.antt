-- Candidates: 01 "The price", and why they suffice (B5).
use Rattle.std.specs.Prelude.{ℕ, ◌≤◌, List, [], ◌∷◌, T}
use Rattle.lists.specs.Sums.{◌∈◌}
use Rattle.lists.specs.Choice.{highest}
use Rattle.terms.specs.Orders.{Resting}
use Rattle.terms.specs.declared.orders.{Side.Side, Limit.Limit, Limit.TheVariants.Unlimited, Limit.TheVariants.At}
use Rattle.queue.specs.Sides.{allows}
use Rattle.price.specs.Interest.{executable}

-- the limits of the orders taking part ..
abbrev pub add_limit : Limit → List ℕ → List ℕ
add_limit Unlimited cs = cs
add_limit (At l) cs = l.0 ∷ cs

abbrev pub limits : List Resting → List ℕ
limits [] = []
limits (o ∷ os) = add_limit o.limit (limits os)

-- .. and the reference price
abbrev pub candidates : ℕ → List Resting → List ℕ
candidates reference book = reference ∷ limits book

-- the highest executable quantity
unfoldable pub most_executable : ℕ → List Resting → ℕ
most_executable reference book = highest (executable book) (candidates reference book)

-- A wall of side s at p: a limit that allows p, such that no price that it allows makes f smaller than at p.
abbrev pub Listed : List ℕ → Limit → Type 0
Listed cs Unlimited = Unit {0}
Listed cs (At l) = l.0 ∈ cs

abbrev pub Wall : Side → ℕ → List ℕ → (ℕ → ℕ) → Type 0
Wall s p cs f = (w : Limit) × Listed cs w × T (allows s p w) × ((q : ℕ) → T (allows s q w) → f p ≤ f q)
