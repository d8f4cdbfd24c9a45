use Prim.Native.Nat.{ℕ, ◌+◌, ◌*◌, ◌<◌}
use mathlib.Core.Path.{◌≡◌, refl}
use native.Mathlib.Omega.{arith}
use native.Mathlib.Numerals.{add-one}
use mathlib.Core.List.{List}
use lib.ListN.{get_or}
use Rattle.trades.specs.declared.{Trade.Trade}
use Rattle.terms.specs.Bounds.{places}
use Rattle.squares.specs.Naming.{trade_at, trade-listed, renamed, renamed-behind, renamed-front, renamed-next}
use Rattle.squares.proofs.name_orders.Goals as goal
use Rattle.squares.proofs.name_orders.Goals.{In-loop-i}

first : (numbers list : List ℕ) → list ≡ renamed (λ p. get_or numbers p 0) 0 list
unfolding renamed
first numbers list = refl

-- the places of the trade at hand
abbrev next : In-loop-i → Trade
next c = trade_at c.args.list.now (c.loop-i.i * 4)

in-book : (c : In-loop-i) → ((next c).buy < places) × ((next c).sell < places)
in-book c = c.requires.1 (next c) (trade-listed c.args.count c.args.list.now c.requires.0 c.loop-i.i c.loop-i-test.true)

-- what is not yet renamed stands as it was
buy-is : (c : In-loop-i) → get_or c.loop-i.list (c.loop-i.i * 4) 0 ≡ (next c).buy
buy-is c = rw c.loop-i.invariant (renamed-front (λ p. get_or c.args.numbers.now p 0) c.loop-i.i c.args.list.now)

sell-is : (c : In-loop-i) → get_or c.loop-i.list (c.loop-i.i * 4 + 1) 0 ≡ (next c).sell
sell-is c = rw c.loop-i.invariant (renamed-behind (λ p. get_or c.args.numbers.now p 0) c.loop-i.i c.args.list.now 1)

pub loop-i-init : goal.loop-i-init
loop-i-init c = first c.args.numbers.now c.args.list.now

pub bounds-numbers-buy : goal.bounds-numbers-buy
bounds-numbers-buy c = let i = (goal.at.bounds-numbers-buy c).In-loop-i in rw (buy-is i) (in-book i).0

pub bounds-numbers-sell : goal.bounds-numbers-sell
bounds-numbers-sell c = let i = (goal.at.bounds-numbers-sell c).In-loop-i in rw (sell-is i) (in-book i).1

pub loop-i-preserved : goal.loop-i-preserved
loop-i-preserved c = let i = (goal.at.loop-i-preserved c).In-loop-i in
    rw (buy-is i, sell-is i, c.loop-i.invariant, add-one c.loop-i.i) (renamed-next (λ p. get_or c.args.numbers.now p 0) c.loop-i.i c.args.list.now (omega (arith, c.requires.0)))
