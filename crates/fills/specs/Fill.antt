-- Filling: 01 "Outcomes", "both sides are filled in rank order up to the executable quantity".
use Rattle.std.specs.Prelude.{ℕ, zero, suc, ◌-◌, min, Bool, List, [], ◌∷◌, T, eqb}
use Rattle.lists.specs.Sums.{◌∈◌, counted, sum}
use Rattle.terms.specs.Orders.{Resting}

-- what an order gets
pub record Fill : Type 0 where
  pub order : Resting
  pub quantity : ℕ

-- the first of a queue takes what it can of q, the next of the rest, up to the last that gets anything
abbrev pub fill : ℕ → List Resting → List Fill
fill q [] = []
fill zero (o ∷ os) = []
fill (suc q) (o ∷ os) = record { order = o; quantity = min (suc q) o.left } ∷ fill (suc q - o.left) os

-- what the orders that pass the test get in all, and what the order with the number n gets
abbrev pub filled_by : (Resting → Bool) → List Fill → ℕ
filled_by f fills = sum (λ x. counted (f x.order) x.quantity) fills

abbrev pub has_number : ℕ → Resting → Bool
has_number n o = eqb o.number n

-- those that pass the test are a front part of the queue
abbrev pub FrontPart : (Resting → Bool) → List Resting → Type 0
FrontPart f [] = Unit {0}
FrontPart f (o ∷ os) = ((x : Resting) → x ∈ os → T (f x) → T (f o)) × FrontPart f os
