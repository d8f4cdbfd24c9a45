use Rattle.std.proofs.Common.{◌≡◌, ◌∙◌, arith, length, get_or}
use Rattle.queue.specs.RankNumbers.{place_of_rank}
use Rattle.fills.proofs.SharesLaws.{shares-step, shares-stop, shares-end}
use Rattle.fills.proofs.shares.share_out.Goals as goal

pub returns-then-rest-eq0 : goal.returns-then-rest-eq0
returns-then-rest-eq0 c = (omega arith, shares-stop (λ r. get_or c.args.lefts.now (place_of_rank r) 0) c.args.ranks.now c.loop-i.i c.loop-i.rest c.loop-i.list c.if-rest-eq0.true ∙ c.loop-i.invariant)

pub loop-i-preserved : goal.loop-i-preserved
loop-i-preserved c =
    rw (c.from-rest.ensures, c.share_of-share.ensures, c.left_at.ensures)
    (shares-step (λ r. get_or c.args.lefts.now (place_of_rank r) 0) c.args.ranks.now c.loop-i.i c.loop-i.rest c.loop-i.list (omega arith) (omega (arith, c.requires)) c.if-rest-eq0.false ∙ c.loop-i.invariant)

pub returns : goal.returns
returns c = let e : length c.args.ranks.now ≡ c.loop-i.i = omega arith in
    rw e (omega arith, shares-end (λ r. get_or c.args.lefts.now (place_of_rank r) 0) c.args.ranks.now c.loop-i.i c.loop-i.rest c.loop-i.list (omega arith) ∙ c.loop-i.invariant)
