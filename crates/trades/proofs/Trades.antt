-- Trade lists at a price, and why none moves more than is executable there.
use Prim.Native.Nat.{ℕ, ◌≤◌}
use Rattle.std.specs.Prelude.{Bool, ◌&&◌, List, T}
use Rattle.std.proofs.Math.Bool.{true, false}
use Rattle.std.proofs.Math.Nat.{le-min}
use Rattle.std.proofs.Common.{arith}
use Rattle.std.proofs.Math.Dec.{eqb, eqb_refl}
use Rattle.lists.specs.Tests.{and_both, and_intro}
use Rattle.lists.specs.Sums.{counted, counted-mono, sum, sum_mono, le-sum, sum-zero, sum-swap}
use Rattle.terms.specs.Orders.{Resting}
use Rattle.terms.specs.declared.orders.{Side.Side, Side.TheVariants.Buy, Side.TheVariants.Sell}
use Rattle.terms.proofs.Sides.{same_side-eq}
use Rattle.queue.specs.Rank.{on_side}
use Rattle.price.specs.Interest.{accepts, interest, executable}
use Rattle.price.specs.Candidates.{most_executable}
use Rattle.price.proofs.Candidates.{candidates-suffice}
use Rattle.trades.specs.declared.Trade.{Trade}
use Rattle.trades.specs.Trades.{TradeList, party, traded, volume}

-- Count each trade at the order that it names, then order by order.
module _ (p : ℕ) (book : List Resting) (trades : List Trade) (possible : TradeList p book trades) where
  row : (s : Side) (b : Bool) (o : Resting) → (T b → traded s o.number trades ≤ o.left) → sum (λ t. counted (b && eqb (party s t) o.number) t.quantity) trades ≤ counted b o.left
  unfolding traded
  row s true o h = h tt
  row s false o h = omega (arith, sum-zero trades)

  volume-le-interest : (s : Side) → volume trades ≤ interest s p book
  unfolding interest
  volume-le-interest s = omega (arith, each-named, sum-swap (λ t o. share t o) trades book, each_row)
    where
      share : Trade → Resting → ℕ
      share t o = counted (accepts s p o && eqb (party s t) o.number) t.quantity

      each-named : volume trades ≤ sum (λ t. sum (λ o. share t o) book) trades
      each-named = sum_mono _ _ trades (λ t m.
          let (o, listed, takes, named) = possible.parties s t m in
          omega (arith, le-sum (λ o. share t o) listed, counted-mono true (accepts s p o && eqb (party s t) o.number) t.quantity (λ u. and_intro (accepts s p o) _ takes (rw named (eqb_refl o.number)))))

      each_row : sum (λ o. sum (λ t. share t o) trades) book ≤ sum (λ o. counted (accepts s p o) o.left) book
      each_row = sum_mono _ _ book (λ o m. row s (accepts s p o) o (λ a. rw (same_side-eq s o.side (and_both (on_side s o) _ a).0) (possible.fits o m)))

  pub volume-le-executable : volume trades ≤ executable book p
  volume-le-executable = le-min (volume-le-interest Buy) (volume-le-interest Sell)

-- No trade list at any price moves more than the highest executable quantity.
pub volume-le-most : (reference p : ℕ) (book : List Resting) (trades : List Trade) → TradeList p book trades → volume trades ≤ most_executable reference book
volume-le-most reference p book trades h = omega (arith, volume-le-executable p book trades h, candidates-suffice reference book p)
