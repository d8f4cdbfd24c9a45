use Rattle.std.proofs.Common.{◌∙◌, rules}
use borrow.Author.Tests.{ne_eqb}
use Rattle.book.specs.Settling.{words_to, words-freed, words-kept}
use Rattle.book.proofs.settling.settle_words.Goals as goal
use Rattle.book.proofs.settling.settle_words.Goals.{then-is_free, else-is_free}

pub loop-place-init : goal.loop-place-init
unfolding words_to
loop-place-init c = search rules

pub loop-place-preserved : goal.loop-place-preserved
loop-place-preserved c =
    let a = c.args in
    let l = c.loop-place in
    elim c.if-is_free.branch [
      | then-is_free w ↦ words-freed a.rests.now a.taken.now l.taken l.place l.invariant w.if-is_free.true _ (w.taken-is ∙ w.unmark.ensures)
      | else-is_free w ↦ w.taken-is ∙ words-kept a.rests.now a.taken.now l.taken l.place l.invariant (ne_eqb _ 0 w.if-is_free.false)
    ]
