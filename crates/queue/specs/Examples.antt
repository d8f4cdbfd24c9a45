-- Worked examples: who takes part, and rank.
use Rattle.std.specs.Prelude.{ℕ, List, [], ◌∷◌, map}
use Rattle.terms.specs.Samples.{order, buy, sell, buy_any}
use Rattle.terms.specs.Orders.{Resting, at_price}
use Rattle.terms.specs.declared.orders.{Side.TheVariants.Buy, Validity.TheVariants.AtOpening, Validity.TheVariants.AtClose, Validity.TheVariants.Day, Validity.TheVariants.LaterDay}

abbrev pub numbers_of : List Resting → List ℕ
numbers_of os = map (λ o. o.number) os

-- one order of each validity
abbrev pub four : List Resting
four = order 1 Buy AtOpening 5 (at_price 100) ∷ order 2 Buy AtClose 5 (at_price 100) ∷ order 3 Buy Day 5 (at_price 100) ∷ order 4 Buy LaterDay 5 (at_price 100) ∷ []

-- orders 9 and 8 stand at places that were freed and reused: number, not place, decides at one limit
abbrev pub mixed : List Resting
mixed = buy 9 10 200 ∷ buy 2 20 200 ∷ sell 3 30 150 ∷ buy_any 8 40 ∷ sell 4 50 100 ∷ buy 5 60 300 ∷ []
