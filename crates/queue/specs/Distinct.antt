-- Numbers are distinct: 01 "A number is never given twice". The one premise of the laws of rank and of demand 3.
use Rattle.std.specs.Prelude.{◌≢◌, List, [], ◌∷◌}
use Rattle.lists.specs.Sums.{◌∈◌}
use Rattle.terms.specs.Orders.{Resting}

-- no two orders of the list have the same number
abbrev pub Distinct : List Resting → Type 0
Distinct [] = Unit {0}
Distinct (o ∷ os) = ((x : Resting) → x ∈ os → x.number ≢ o.number) × Distinct os
