-- Worked examples: filling and the filled front.
use Rattle.std.specs.Prelude.{◌≡◌, refl, [], ◌∷◌, map}
use Rattle.terms.specs.declared.orders.{Side.TheVariants.Buy}
use Rattle.queue.specs.Rank.{ranked}
use Rattle.queue.specs.Examples.{mixed}
use Rattle.fills.specs.Fill.{fill}
use Rattle.fills.specs.Front.{front}

-- 110 fills orders 8 and 5 and 10 of order 2; nothing is left for order 9
filled : map (λ x. x.quantity) (fill 110 (ranked Buy mixed)) ≡ 40 ∷ 60 ∷ 10 ∷ []
unfolding ranked
filled = refl

-- the longest front part whose sum is at most the total; a total that is just reached counts
fronts : front 60 (10 ∷ 50 ∷ 0 ∷ 1 ∷ []) ≡ 10 ∷ 50 ∷ 0 ∷ []
unfolding front
fronts = refl
