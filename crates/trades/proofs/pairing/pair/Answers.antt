use Prim.Native.Nat.{◌≤◌}
use mathlib.Core.Bool.{true, ◌&&◌}
use mathlib.Core.List.{List}
use mathlib.Core.Path.{◌≡◌, sym, ◌∙◌}
use native.Mathlib.Omega.{arith}
use lib.Dec.{ltb}
use lib.ListN.{length, get_or, length-map}
use Prim.Native.Nat.{ℕ}
use Rattle.queue.specs.RankNumbers.{place_of_rank, along}
use Rattle.trades.proofs.Turns.{state-start, state-end, state-step}
use Rattle.trades.proofs.pairing.pair.Goals as goal
use Rattle.trades.proofs.pairing.pair.Goals.{In-loop-b}

-- in a turn neither queue is at its end
goes : (c : In-loop-b) → (ltb c.loop-b.b.at (length c.args.bids.now.shares.now) && ltb c.loop-b.s.at (length c.args.asks.now.shares.now)) ≡ true
goes c = sym c.going.ensures ∙ c.loop-b-test.true

-- each share has a number
numbered : (numbers ranks shares : List ℕ) → length shares ≤ length ranks → length shares ≤ length (along numbers ranks)
numbered numbers ranks shares h = omega (arith, length-map ranks (λ r. get_or numbers (place_of_rank r) 0), h)

pub loop-b-init : goal.loop-b-init
loop-b-init c = rw (c.share_at.ensures, c.share_at-2.ensures) (state-start _ _ _ _ _ _)

pub loop-b-preserved : goal.loop-b-preserved
loop-b-preserved c = let a = c.args in
    state-step _ _ _ _ _ _ _ _ _ _ c.loop-b.invariant (goes (goal.at.loop-b-preserved c).In-loop-b)
    (numbered a.numbers.now a.bids.now.ranks.now a.bids.now.shares.now a.bids.now.covered) (numbered a.numbers.now a.asks.now.ranks.now a.asks.now.shares.now a.asks.now.covered)
    _ _ _ _ _ _ c.number_at-buy.ensures c.number_at-sell.ensures c.min-q.ensures c.advanced-b.ensures c.advanced-s.ensures c.write_trade.ensures c.write_trade.auto.list

pub returns : goal.returns
returns c = state-end _ _ _ _ _ _ _ _ _ _ c.loop-b.invariant (sym c.going.ensures ∙ c.loop-b-test.false)
