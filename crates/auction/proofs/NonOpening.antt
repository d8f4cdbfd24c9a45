-- Non Opening: exactly when no trade list at any price, or at any legal price, fills every unlimited order taking part.
use Rattle.std.specs.Prelude.{ℕ, ◌≤◌, Bool, true, false, not, ◌&&◌, ◌||◌, ◌↔◌, ◌≡◌, List, T, eqb, ltb}
use Rattle.std.proofs.Common.{⊎_elim, sym, arith, eqb→eq}
use Rattle.lists.specs.Tests.{tests, and_both, and_intro, or_cases, decided}
use Rattle.lists.specs.Sums.{◌∈◌, counted, counted-pass, sum, sum-each, sum_mono, sum-swap}
use Rattle.lists.specs.Choice.{highest-at}
use Rattle.terms.specs.Orders.{Resting, is_legal}
use Rattle.terms.specs.declared.orders.{Side.Side, Side.TheVariants.Buy, Side.TheVariants.Sell, Limit.Limit, Limit.TheVariants.Unlimited, Limit.TheVariants.At}
use Rattle.terms.proofs.Sides.{same_side-eq, same_side-refl}
use Rattle.queue.specs.Sides.{is_unlimited}
use Rattle.queue.specs.Distinct.{Distinct}
use Rattle.queue.proofs.Distinct.{distinct-sum}
use Rattle.queue.specs.Rank.{on_side, better_limit, ranked}
use Rattle.queue.proofs.Rank.{ahead-limit, ranked-in-order}
use Rattle.fills.specs.Fill.{FrontPart}
use Rattle.fills.proofs.Fill.{ranked-front}
use Rattle.price.specs.Interest.{interest, executable}
use Rattle.price.proofs.Interest.{executable-within}
use Rattle.price.specs.Candidates.{limits, candidates, most_executable}
use Rattle.price.proofs.Legal.{candidates-legal}
use Rattle.trades.specs.declared.{Trade.Trade}
use Rattle.trades.specs.Trades.{party, traded, volume, TradeList}
use Rattle.trades.proofs.Trades.{volume-le-most}
use Rattle.trades.specs.TradesOf.{trades_of}
use Rattle.trades.proofs.TradesOf.{traded-front, trades-possible}
use Rattle.auction.specs.Outcome.{unlimited, non_opening}
use Rattle.auction.specs.NonOpening.{AllFilled, Fillable, FillableAt}

-- the orders of a side trade no more than the volume
traded-le-volume : (s : Side) (book : List Resting) (trades : List Trade) → Distinct book → sum (λ o. traded s o.number trades) book ≤ volume trades
unfolding traded
traded-le-volume s book trades d = omega (
  arith,
  sum-swap (λ o t. counted (eqb (party s t) o.number) t.quantity) book trades,
  sum_mono (λ t. sum (λ o. counted (eqb (party s t) o.number) t.quantity) book) (λ t. t.quantity) trades
      (λ t m. distinct-sum (party s t) t.quantity (λ n. eqb (party s t) n) (λ o. t.quantity) book d (λ n h. sym (eqb→eq (party s t) n h)) (λ o n i. omega arith)),
)

-- so what is filled is within the highest executable quantity
filled_within : (reference p : ℕ) (book : List Resting) (trades : List Trade) → Distinct book → TradeList p book trades → AllFilled book trades → (s : Side) → unlimited s book ≤ most_executable reference book
filled_within reference p book trades d possible filled s = omega (arith, each, traded-le-volume s book trades d, volume-le-most reference p book trades possible)
  where
    one : (o : Resting) → o ∈ book → (b : Bool) → (T b → T (on_side s o) × T (is_unlimited o.limit)) → counted b o.left ≤ traded s o.number trades
    one o m true h = rw (same_side-eq s o.side (h tt).0, filled o m (h tt).1) (omega arith)
    one o m false h = omega arith

    each : unlimited s book ≤ sum (λ o. traded s o.number trades) book
    each = sum_mono _ _ book (λ o m. one o m (on_side s o && is_unlimited o.limit) (and_both (on_side s o) _))

-- unlimited orders come first in the queue
unlimited-first : (s : Side) (v w : Limit) → T (not (better_limit s w v)) → T (is_unlimited w) → T (is_unlimited v)
unlimited-first s Unlimited w h k = tt
unlimited-first s (At v) Unlimited h k = absurd h
unlimited-first s (At v) (At w) h k = k

pub unlimited-front : (s : Side) (book : List Resting) → Distinct book → FrontPart (λ o. is_unlimited o.limit) (ranked s book)
unlimited-front s book d =
    ranked-front s (λ o. is_unlimited o.limit) (λ a b h k. unlimited-first s a.limit b.limit (ahead-limit s a b h) k) (ranked s book) (ranked-in-order s book d)

-- a quantity that covers the unlimited orders fills each of them
fills-all : (p quantity : ℕ) (book : List Resting) → Distinct book → ((s : Side) → quantity ≤ interest s p book) → ((s : Side) → unlimited s book ≤ quantity) → AllFilled book (trades_of quantity book)
fills-all p quantity book d enough covers o m u = omega (arith, (trades-possible p quantity book d enough).fits o m, full)
  where
    had : Resting → ℕ
    had x = counted (on_side o.side x && is_unlimited x.limit) x.left

    gave : Resting → ℕ
    gave x = counted (on_side o.side x && is_unlimited x.limit) (traded o.side x.number (trades_of quantity book))

    one : (x : Resting) → x ∈ book → (b : Bool) → (T b → o.side ≡ x.side) → counted b (traded o.side x.number (trades_of quantity book)) ≤ counted b x.left
    one x n true e = rw (e tt) ((trades-possible p quantity book d enough).fits x n)
    one x n false e = omega arith

    each : (x : Resting) → x ∈ book → gave x ≤ had x
    each x n = one x n (on_side o.side x && is_unlimited x.limit) (λ a. same_side-eq o.side x.side (and_both (on_side o.side x) _ a).0)

    here : T (on_side o.side o && is_unlimited o.limit)
    here = and_intro (on_side o.side o) _ (same_side-refl o.side) u

    full : o.left ≤ traded o.side o.number (trades_of quantity book)
    full = omega (
      arith,
      sum-each had gave book each (omega (arith, traded-front p quantity book d enough o.side (λ x. is_unlimited x.limit) (unlimited-front o.side book d), covers o.side)) m,
      counted-pass (on_side o.side o && is_unlimited o.limit) o.left here,
      counted-pass (on_side o.side o && is_unlimited o.limit) (traded o.side o.number (trades_of quantity book)) here,
    )

-- the candidate that executes most fills all that any price does
candidate-fills : (reference : ℕ) (book : List Resting) → Distinct book → ((s : Side) → unlimited s book ≤ most_executable reference book)
    → (p : ℕ) × (p ∈ candidates reference book) × (trades : List Trade) × TradeList p book trades × AllFilled book trades
unfolding most_executable
candidate-fills reference book d h =
    let (c, listed, e) = highest-at (executable book) reference (limits book) in
    let enough : (s : Side) → executable book c ≤ interest s c book = λ s. executable-within s c book in
    (c, listed, trades_of (executable book c) book, trades-possible c (executable book c) book d enough, fills-all c (executable book c) book d enough (λ s. omega (arith, h s)))

fillable-within : (reference : ℕ) (book : List Resting) → Distinct book → Fillable book ↔ ((s : Side) → unlimited s book ≤ most_executable reference book)
fillable-within reference book d = (
  (λ (p, trades, possible, filled). filled_within reference p book trades d possible filled),
  (λ h. let (c, listed, trades, possible, filled) = candidate-fills reference book d h in (c, trades, possible, filled)),
)

pub non-opening-exactly : (reference : ℕ) (book : List Resting) → Distinct book → T (non_opening reference book) ↔ (Fillable book → ⊥)
unfolding non_opening
non-opening-exactly reference book d = (
  (λ h f. let within = (fillable-within reference book d).0 f in
      ⊎_elim (λ k. omega (tests, within Buy)) (λ k. omega (tests, within Sell)) (or_cases (ltb (most_executable reference book) (unlimited Buy book)) _ h)),
  (λ no. ⊎_elim
      (λ h. h)
      (λ h. absurd (no ((fillable-within reference book d).1 (within h))))
      (decided (ltb (most_executable reference book) (unlimited Buy book) || ltb (most_executable reference book) (unlimited Sell book)))),
)
  where
    neither : (a b : Bool) → T (not (a || b)) → T (not a) × T (not b)
    neither true b h = absurd h
    neither false b h = (tt, h)

    within : T (not (ltb (most_executable reference book) (unlimited Buy book) || ltb (most_executable reference book) (unlimited Sell book))) → (s : Side) → unlimited s book ≤ most_executable reference book
    within h Buy = omega (tests, (neither (ltb (most_executable reference book) (unlimited Buy book)) _ h).0)
    within h Sell = omega (tests, (neither (ltb (most_executable reference book) (unlimited Buy book)) _ h).1)

-- The two senses of "price" are one, where the limits and the reference price are legal: a candidate fills them, if any price does.
pub fillable-legally : (legal : ℕ → Bool) (reference : ℕ) (book : List Resting) → Distinct book → T (legal reference) → ((o : Resting) → o ∈ book → T (is_legal legal o.limit))
    → Fillable book ↔ FillableAt legal book
fillable-legally legal reference book d r h = (
  (λ f. let (c, listed, trades, possible, filled) = candidate-fills reference book d ((fillable-within reference book d).0 f) in
      (c, candidates-legal legal reference book r h c listed, trades, possible, filled)),
  (λ (p, lawful, trades, possible, filled). (p, trades, possible, filled)),
)
