use Rattle.std.proofs.Common.{ℕ, ◌+◌, ◌-◌, ◌*◌, ◌≡◌, sym, ap, ◌∙◌, arith}
use Rattle.places.specs.Places.{word_places, words_taken}
use Rattle.places.specs.Words.{words-past, words_last}
use Rattle.places.proofs.words.behind_taken.Goals as goal

pub returns-then-taken-j-ne0 : goal.returns-then-taken-j-ne0
returns-then-taken-j-ne0 c =
    let e : c.loop-j.j - 1 + 1 ≡ c.loop-j.j = omega arith in
    rw e (sym (ap (λ (n : ℕ). n * word_places) (c.loop-j.invariant ∙ words_last c.args.taken.now c.loop-j.j (omega arith) c.if-taken-j-ne0.true)))

pub loop-j-preserved : goal.loop-j-preserved
loop-j-preserved c = c.loop-j.invariant ∙ words-past c.args.taken.now c.loop-j.j (omega arith) c.if-taken-j-ne0.false

pub returns : goal.returns
unfolding words_taken
returns c = let e : c.loop-j.j ≡ 0 = omega arith in sym (ap (λ (n : ℕ). n * word_places) (rw e at c.loop-j.invariant))
