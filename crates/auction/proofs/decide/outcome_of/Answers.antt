use borrow.Author.Tests.{ne_eqb}
use Rattle.auction.specs.Decided.{outcome_from}
use Rattle.auction.proofs.decide.outcome_of.Goals as goal
use Rattle.auction.proofs.decide.outcome_of.Goals.{else-held-via-then-held+else-reaches, else-held-via-else-held}

pub returns-then-held-exceeds : goal.returns-then-held-exceeds
unfolding outcome_from
returns-then-held-exceeds c = rw (← c.exceeds.ensures, c.if-held-exceeds.true)

pub returns-then-found-eq0 : goal.returns-then-found-eq0
unfolding outcome_from
returns-then-found-eq0 c = rw (← c.exceeds.ensures, c.if-held-exceeds.false, c.if-found-eq0.true)

pub returns-then-reaches : goal.returns-then-reaches
unfolding outcome_from
returns-then-reaches c = rw (← c.exceeds.ensures, c.if-held-exceeds.false, ne_eqb _ 0 c.if-found-eq0.false, c.if-held.true, ← c.reaches.ensures, c.if-reaches.true)

pub returns : goal.returns
unfolding outcome_from
returns c = elim c.else-held.branch [
  | else-held-via-then-held+else-reaches w ↦ rw (← c.exceeds.ensures, c.if-held-exceeds.false, ne_eqb _ 0 c.if-found-eq0.false, w.if-held.true, ← w.reaches.ensures, w.if-reaches.false)
  | else-held-via-else-held w ↦ rw (← c.exceeds.ensures, c.if-held-exceeds.false, ne_eqb _ 0 c.if-found-eq0.false, w.if-held.false)
]
