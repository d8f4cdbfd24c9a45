-- Nothing left: among what is left of those taking part, the executable quantity at every price is 0.
use Rattle.std.specs.Prelude.{ℕ, ◌-◌, ◌≤◌, Bool, ◌≡◌, List, map, T}
use Rattle.std.proofs.Math.Bool.{true, false}
use native.Mathlib.Omega.{arith}
use Rattle.lists.specs.Tests.{and_both}
use Rattle.lists.specs.Sums.{◌∈◌, counted, sum_less, sum-map, sum_same}
use Rattle.terms.specs.Orders.{Resting}
use Rattle.terms.specs.declared.orders.{Side.Side, Side.TheVariants.Buy, Side.TheVariants.Sell}
use Rattle.terms.proofs.Sides.{same_side-eq}
use Rattle.queue.specs.Sides.{allows}
use Rattle.queue.specs.Distinct.{Distinct}
use Rattle.queue.specs.Rank.{on_side}
use Rattle.price.specs.Interest.{accepts, interest, executable}
use Rattle.trades.specs.Trades.{traded}
use Rattle.trades.specs.TradesOf.{trades_of}
use Rattle.trades.proofs.TradesOf.{allows-front, traded-front, trades-possible}
use Rattle.auction.specs.After.{remaining}

module _ (p quantity : ℕ) (book : List Resting) (d : Distinct book) (enough : (s : Side) → quantity ≤ interest s p book) where
  -- what an order that accepts q has, and what it trades
  had : Side → ℕ → Resting → ℕ
  had s q o = counted (accepts s q o) o.left

  gave : Side → ℕ → Resting → ℕ
  gave s q o = counted (accepts s q o) (traded s o.number (trades_of quantity book))

  gave-le-had : (s : Side) (q : ℕ) (o : Resting) → o ∈ book → gave s q o ≤ had s q o
  unfolding had gave
  gave-le-had s q o m = go (accepts s q o) (λ a. same_side-eq s o.side (and_both (on_side s o) _ a).0)
    where
      go : (b : Bool) → (T b → s ≡ o.side) → counted b (traded s o.number (trades_of quantity book)) ≤ counted b o.left
      go true e = rw (e tt) ((trades-possible p quantity book d enough).fits o m)
      go false e = omega arith

  keeps : (s : Side) (q : ℕ) (o : Resting) → counted (accepts s q o) (remaining (trades_of quantity book) o).left ≡ had s q o - gave s q o
  unfolding had gave
  keeps s q o = go (accepts s q o) (λ a. same_side-eq s o.side (and_both (on_side s o) _ a).0)
    where
      go : (b : Bool) → (T b → s ≡ o.side) → counted b (o.left - traded o.side o.number (trades_of quantity book)) ≡ counted b o.left - counted b (traded s o.number (trades_of quantity book))
      go true e = rw (e tt)
      go false e = omega arith

  -- Of a side's interest at any price, what is left is what exceeds the quantity.
  pub interest-left : (s : Side) (q : ℕ) → interest s q (map (remaining (trades_of quantity book)) book) ≡ interest s q book - quantity
  unfolding interest had gave
  interest-left s q = omega (
    arith,
    sum-map (λ o. counted (accepts s q o) o.left) (remaining (trades_of quantity book)) book,
    sum_same (λ o. counted (accepts s q o) (remaining (trades_of quantity book) o).left) (λ o. had s q o - gave s q o) book (λ o m. keeps s q o),
    sum_less (had s q) (gave s q) book (gave-le-had s q),
    traded-front p quantity book d enough s (λ o. allows s q o.limit) (allows-front s q book d),
  )

  -- So where no price executes more than the quantity, nothing that is left could trade.
  pub nothing_left : ((q : ℕ) → executable book q ≤ quantity) → (q : ℕ) → executable (map (remaining (trades_of quantity book)) book) q ≡ 0
  nothing_left best q = omega (arith, interest-left Buy q, interest-left Sell q, best q)
