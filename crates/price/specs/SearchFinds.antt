-- The search finds what the chain leaves: the candidates weighed one after the other come to what the chain keeps of all of them.
use Rattle.std.specs.Prelude.{ℕ, cond}
use Rattle.price.specs.Search.{first_weighed, joined, beats, ties}
use Rattle.price.specs.declared.weigh.{Weighed.Weighed}

-- one more candidate, by its executable quantity and difference: it is better, it is level, or it is worse
abbrev pub stepped : ℕ → ℕ → ℕ → ℕ → Weighed → Weighed
stepped reference price most least w = cond (beats most least w) (first_weighed price most least) (cond (ties most least w) (joined reference price w) w)
