use native.Mathlib.Omega.{arith}
use Rattle.auction.specs.Trading.{trades_in, left_in}
use Rattle.auction.proofs.Composed.{few-filled}
use Rattle.auction.proofs.trading.traded.Goals as goal

pub overflow_cast-result : goal.overflow_cast-result
overflow_cast-result c = let b = c.filled-bids in
    let s = c.filled-asks in
    omega (arith, c.pair-count.ensures.0, few-filled c.args.numbers.now b.result s.result (rw b.ensures.0 c.requires.0) (rw s.ensures.0 c.requires.1))

pub returns : goal.returns
unfolding trades_in left_in
returns c = let b = c.filled-bids.ensures in
    let s = c.filled-asks.ensures in
    let paired = rw (b.0, b.1, s.0, s.1) at c.pair-count.ensures in
    (paired.0, rw (c.end_rests.ensures, c.lessen-2.ensures, c.lessen.ensures, b.0, b.1, s.0, s.1), paired.1)
