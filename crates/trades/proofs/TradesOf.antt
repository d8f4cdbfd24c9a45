-- The trades: 01 "Outcomes", "both sides are filled in rank order up to the executable quantity. The trades pair the two queues from the front".
use Rattle.std.specs.Prelude.{ℕ, ◌+◌, ◌-◌, ◌≤◌, ◌<◌, min, Bool, true, ◌&&◌, ◌≡◌, refl, List, [], length}
use Rattle.std.proofs.Common.{sym, ap, ◌∙◌}
use native.Mathlib.Omega.{arith}
use Rattle.std.proofs.Math.Dec.{T, eqb, eqb→eq}
use Rattle.lists.specs.Tests.{and_intro, passes}
use Rattle.lists.specs.Sums.{◌∈◌, counted, counted-and, counted-le, sum, sum_mono, sum_same, sum_ones, sum-add}
use Rattle.terms.specs.Orders.{Resting}
use Rattle.terms.specs.declared.orders.{Side.Side, Side.TheVariants.Buy, Side.TheVariants.Sell}
use Rattle.terms.specs.Sides.{same_side}
use Rattle.queue.specs.Sides.{allows}
use Rattle.queue.specs.Distinct.{Distinct}
use Rattle.queue.proofs.Distinct.{distinct-one, distinct-sum}
use Rattle.queue.specs.Rank.{on_side, ahead, ranked}
use Rattle.queue.proofs.Rank.{ranked-in-order, ranked-elim, ranked-intro, ranked-sum}
use Rattle.fills.specs.Fill.{Fill, filled_by, has_number, FrontPart}
use Rattle.fills.proofs.Fill.{ranked-front, front-all, fill-zero, fill-length, fill-le, fill-all, fill-front, fill-passes, fill-in-order, filled-by-number, ranked-distinct}
use Rattle.price.specs.Interest.{accepts, interest}
use Rattle.price.proofs.Interest.{allows-ahead}
use Rattle.trades.specs.declared.Trade.{Trade}
use Rattle.trades.specs.Trades.{party, traded, volume, TradeList}
use Rattle.trades.specs.Pairing.{amount}
use Rattle.trades.proofs.PairingLaws.{paired-traded, paired-volume, paired-count, paired-parties, paired-positive}
use Rattle.trades.specs.TradesOf.{fills, left_of, trades_of}

-- of nothing there are no trades
pub trades-none : (book : List Resting) → trades_of 0 book ≡ []
unfolding trades_of fills
trades-none book = rw (fill-zero (ranked Buy book), fill-zero (ranked Sell book))

-- .. in the ranked queue
pub queue-left : (s : Side) (f : Resting → Bool) (book : List Resting) → sum (λ o. counted (f o) o.left) (ranked s book) ≡ left_of s f book
queue-left s f book =
    ranked-sum s book (λ o. counted (f o) o.left)
    ∙ sum_same (λ o. counted (on_side s o) (counted (f o) o.left)) (λ o. counted (on_side s o && f o) o.left) book (λ o m. sym (counted-and (on_side s o) (f o) o.left))

-- those whose limits allow p are a front part of the ranked queue
pub allows-front : (s : Side) (p : ℕ) (book : List Resting) → Distinct book → FrontPart (λ o. allows s p o.limit) (ranked s book)
allows-front s p book d = ranked-front s (λ o. allows s p o.limit) (allows-ahead s p) (ranked s book) (ranked-in-order s book d)

-- The fills of a quantity that both sides have at the price p.
module _ (p quantity : ℕ) (book : List Resting) (d : Distinct book) (enough : (s : Side) → quantity ≤ interest s p book) where
  fills-known : (s : Side) (x : Fill) → x ∈ fills s quantity book → (x.order ∈ book) × T (on_side s x.order)
  unfolding fills
  fills-known s x m = fill-all (λ x. (x.order ∈ book) × T (on_side s x.order)) quantity (ranked s book) (λ o n k. ranked-elim s book k) x m

  fills-accept : (s : Side) (x : Fill) → x ∈ fills s quantity book → T (allows s p x.order.limit)
  unfolding fills interest
  fills-accept s x m = fill-passes (λ o. allows s p o.limit) quantity (ranked s book) (allows-front s p book d) (rw (queue-left s (λ o. allows s p o.limit) book) (enough s)) x m

  -- both sides' fills come to the quantity
  pub fills-amount : (s : Side) → amount (fills s quantity book) ≡ quantity
  unfolding fills interest
  fills-amount s = omega (
    arith,
    fill-front (λ o. true) quantity (ranked s book) (front-all (ranked s book)),
    queue-left s (λ o. allows s p o.limit) book,
    enough s,
    sum_mono (λ o. counted (allows s p o.limit) o.left) (λ o. o.left) (ranked s book) (λ o m. counted-le (allows s p o.limit) o.left),
  )

  same-amount : amount (fills Buy quantity book) ≡ amount (fills Sell quantity book)
  same-amount = fills-amount Buy ∙ sym (fills-amount Sell)

  -- the trades move the quantity
  pub trades-volume : volume (trades_of quantity book) ≡ quantity
  unfolding trades_of
  trades-volume = paired-volume (fills Buy quantity book) (fills Sell quantity book) same-amount ∙ fills-amount Buy

  -- each order trades what it is filled with
  pub trades-filled : (s : Side) (n : ℕ) → traded s n (trades_of quantity book) ≡ filled_by (has_number n) (fills s quantity book)
  unfolding trades_of
  trades-filled Buy n = (paired-traded (fills Buy quantity book) (fills Sell quantity book) same-amount n).0
  trades-filled Sell n = (paired-traded (fills Buy quantity book) (fills Sell quantity book) same-amount n).1

  -- a number that side s of the book has at p
  abbrev Known : Side → ℕ → Type 0
  Known s n = (o : Resting) × (o ∈ book) × T (accepts s p o) × (n ≡ o.number)

  known : (s : Side) (x : Fill) → x ∈ fills s quantity book → Known s x.order.number
  known s x m = let (listed, same) = fills-known s x m in (x.order, listed, and_intro (on_side s x.order) _ same (fills-accept s x m), refl)

  trades-known : (s : Side) (t : Trade) → t ∈ trades_of quantity book → Known s (party s t)
  unfolding trades_of
  trades-known Buy t m = (paired-parties (Known Buy) (Known Sell) (fills Buy quantity book) (fills Sell quantity book) (known Buy) (known Sell) t m).0
  trades-known Sell t m = (paired-parties (Known Buy) (Known Sell) (fills Buy quantity book) (fills Sell quantity book) (known Buy) (known Sell) t m).1

  -- no order is filled beyond what it has open
  filled-le : (o : Resting) → o ∈ book → (s : Side) → filled_by (has_number o.number) (fills s quantity book) ≤ o.left
  unfolding fills
  filled-le o m s = omega (
    arith,
    fill-le (has_number o.number) quantity (ranked s book),
    ranked-sum s book (λ x. counted (has_number o.number x) x.left),
    sum_mono (λ x. counted (on_side s x) (counted (has_number o.number x) x.left)) (λ x. counted (has_number o.number x) x.left) book (λ x n. counted-le (on_side s x) _),
    distinct-sum o.number o.left (λ n. eqb n o.number) (λ x. x.left) book d (λ n. eqb→eq n o.number) (λ x n i. rw (distinct-one book d n m i) (omega arith)),
  )

  -- so they are a trade list at p
  pub trades-possible : TradeList p book (trades_of quantity book)
  trades-possible = record {
    parties = trades-known;
    fits = λ o m. omega (arith, trades-filled o.side o.number, filled-le o m o.side);
  }

  -- if an order gets anything, every better ranked order of its side is filled
  pub trades-in-order : (s : Side) (a b : Resting) → a ∈ book → b ∈ book → T (on_side s a) → T (on_side s b) → T (ahead s a b) → 0 < traded s b.number (trades_of quantity book)
      → traded s a.number (trades_of quantity book) ≡ a.left
  unfolding fills
  trades-in-order s a b ma mb sa sb h k = omega (
    arith,
    trades-filled s a.number,
    trades-filled s b.number,
    filled-le a ma s,
    fill-in-order s quantity (ranked s book) (ranked-in-order s book d) (ranked-distinct s book (ranked s book) d (λ o m. (ranked-elim s book m).0) (ranked-in-order s book d)) (ranked-intro s ma sa)
        (ranked-intro s mb sb) h (omega (arith, trades-filled s b.number)),
  )

  -- no trade is of nothing, where each order has something open
  pub trades-positive : ((o : Resting) → o ∈ book → 0 < o.left) → (t : Trade) → t ∈ trades_of quantity book → 0 < t.quantity
  unfolding trades_of fills
  trades-positive live t m = paired-positive (fills Buy quantity book) (fills Sell quantity book) (positive Buy) (positive Sell) t m
    where
      positive : (s : Side) (x : Fill) → x ∈ fills s quantity book → 0 < x.quantity
      positive s x n = fill-all (λ x. 0 < x.quantity) quantity (ranked s book) (λ o k i. omega (arith, live o (ranked-elim s book i).0)) x n

  -- what the orders that pass the test trade on a side, added up over the book, is what they are filled with
  traded-sum : (s : Side) (f : Resting → Bool) → sum (λ o. counted (f o) (traded s o.number (trades_of quantity book))) book ≡ filled_by f (fills s quantity book)
  traded-sum s f =
      sum_same (λ o. counted (f o) (traded s o.number (trades_of quantity book))) (λ o. counted (f o) (filled_by (has_number o.number) (fills s quantity book))) book
      (λ o m. ap (counted (f o)) (trades-filled s o.number))
      ∙ filled-by-number f book d (fills s quantity book) (λ x m. (fills-known s x m).0)

  filled-side : (s : Side) (f : Resting → Bool) → filled_by (λ o. on_side s o && f o) (fills s quantity book) ≡ filled_by f (fills s quantity book)
  filled-side s f =
      sum_same (λ x. counted (on_side s x.order && f x.order) x.quantity) (λ x. counted (f x.order) x.quantity) (fills s quantity book)
      (λ x m. rw (passes (on_side s x.order) (fills-known s x m).1))

  -- the orders of a side trade the quantity
  pub traded-side : (s : Side) → sum (λ o. counted (on_side s o) (traded s o.number (trades_of quantity book))) book ≡ quantity
  traded-side s =
      traded-sum s (on_side s)
      ∙ sum_same (λ x. counted (on_side s x.order) x.quantity) (λ x. x.quantity) (fills s quantity book) (λ x m. rw (passes (on_side s x.order) (fills-known s x m).1))
      ∙ fills-amount s

  -- A front part of a side's queue trades the quantity, or all that it has open.
  pub traded-front : (s : Side) (f : Resting → Bool) → FrontPart f (ranked s book)
      → sum (λ o. counted (on_side s o && f o) (traded s o.number (trades_of quantity book))) book ≡ min quantity (left_of s f book)
  unfolding fills
  traded-front s f front = traded-sum s (λ o. on_side s o && f o) ∙ filled-side s f ∙ fill-front f quantity (ranked s book) front ∙ rw (queue-left s f book)

-- there are fewer trades than orders
pub trades-count : (quantity : ℕ) (book : List Resting) → length (trades_of quantity book) ≤ length book - 1
unfolding trades_of fills
trades-count quantity book = omega (
  arith,
  paired-count (fills Buy quantity book) (fills Sell quantity book),
  fill-length quantity (ranked Buy book),
  fill-length quantity (ranked Sell book),
  queue-length Buy,
  queue-length Sell,
  sum-add (λ o. counted (on_side Buy o) 1) (λ o. counted (on_side Sell o) 1) book,
  sum_same (λ o. counted (on_side Buy o) 1 + counted (on_side Sell o) 1) (λ o. 1) book (λ o m. one o.side),
  sum_ones book,
)
  where
    queue-length : (s : Side) → length (ranked s book) ≡ sum (λ o. counted (on_side s o) 1) book
    queue-length s = sym (sum_ones (ranked s book)) ∙ ranked-sum s book (λ o. 1)

    one : (s : Side) → counted (same_side Buy s) 1 + counted (same_side Sell s) 1 ≡ 1
    one Buy = refl
    one Sell = refl
