use Prim.Native.Nat.{ℕ}
use mathlib.Core.Path.{◌≡◌, sym, ap, ◌∙◌}
use mathlib.Core.List.{map}
use native.Mathlib.Omega.{arith}
use lib.ListN.{get_or, length-map}
use Rattle.queue.specs.RankNumbers.{place_of_rank}
use Rattle.lists.specs.Over.{over-write, get_d_map}
use Rattle.queue.proofs.listed.list_numbers.Goals as goal

pub loop-i-preserved : goal.loop-i-preserved
loop-i-preserved c = let a = c.args in
    let f : ℕ → ℕ = λ x. get_or a.numbers.now (place_of_rank x) 0 in
    let i = c.loop-i.i in
    let v : get_or a.numbers.now c.place_of_rank.result 0 ≡ get_or (map f a.ranks.now) i 0 = ap (λ (p : ℕ). get_or a.numbers.now p 0) c.place_of_rank.ensures.0 ∙ sym (get_d_map f a.ranks.now i (omega arith)) in
    rw (c.loop-i.invariant, v) (over-write (map f a.ranks.now) a.list.now i (omega (arith, length-map a.ranks.now f)) (omega arith))
