-- Rank: 01 "Who takes part, and at what rank", last sentence (004 clause 6).
use Rattle.std.specs.Prelude.{ℕ, not, ◌⊎◌, ◌≢◌, ◌≡◌, List, [], ◌∷◌, T, ltb}
use Rattle.std.proofs.Common.{inl, inr, ⊎_elim, sym, ◌∙◌, T_not}
use Rattle.std.proofs.Math.Dec.{not_T}
use Rattle.lists.specs.Tests.{tests, decided, and_both, and_intro, or_cases, or_left, or_right}
use Rattle.lists.specs.Sums.{◌∈◌, sum, counted}
use Rattle.lists.specs.Choice.{keep, keep-elim, keep-intro, keep-sum}
use Rattle.lists.specs.Ranking.{Ranked, Comparable, rank-sum, rank-elim, rank-intro, rank-ranked, ranked-unique}
use Rattle.terms.specs.Orders.{Resting}
use Rattle.terms.specs.declared.orders.{Side.Side, Side.TheVariants.Buy, Side.TheVariants.Sell, Limit.Limit, Limit.TheVariants.Unlimited, Limit.TheVariants.At}
use Rattle.queue.specs.Distinct.{Distinct}
use Rattle.queue.proofs.Distinct.{distinct-keep}
use Rattle.queue.specs.Rank.{ahead, better_limit, better_price, earlier, on_side, ranked}

-- Rank is a strict total order on orders with distinct numbers (B4).
better_price-irrefl : (s : Side) (p : ℕ) → T (better_price s p p) → ⊥
better_price-irrefl Buy p h = omega tests
better_price-irrefl Sell p h = omega tests

-- what is better than the one is better than the other too, or the other is better than the one
better_price-or : (s : Side) (p q r : ℕ) → T (better_price s p r) → T (better_price s p q) ⊎ T (better_price s q r)
better_price-or Buy p q r h = ⊎_elim inl (λ k. inr (omega tests)) (decided (ltb q p))
better_price-or Sell p q r h = ⊎_elim inl (λ k. inr (omega tests)) (decided (ltb p q))

better_price-trans : (s : Side) (p q r : ℕ) → T (better_price s p q) → T (better_price s q r) → T (better_price s p r)
better_price-trans Buy p q r h k = omega tests
better_price-trans Sell p q r h k = omega tests

better_limit-irrefl : (s : Side) (u : Limit) → T (better_limit s u u) → ⊥
better_limit-irrefl s Unlimited h = h
better_limit-irrefl s (At p) h = better_price-irrefl s p.0 h

better_limit-or : (s : Side) (u v w : Limit) → T (better_limit s u w) → T (better_limit s u v) ⊎ T (better_limit s v w)
better_limit-or s Unlimited v Unlimited h = absurd h
better_limit-or s Unlimited Unlimited (At r) h = inr tt
better_limit-or s Unlimited (At q) (At r) h = inl tt
better_limit-or s (At p) v Unlimited h = absurd h
better_limit-or s (At p) Unlimited (At r) h = inr tt
better_limit-or s (At p) (At q) (At r) h = better_price-or s p.0 q.0 r.0 h

better_limit-trans : (s : Side) (u v w : Limit) → T (better_limit s u v) → T (better_limit s v w) → T (better_limit s u w)
better_limit-trans s Unlimited v Unlimited h k = no_better v k
  where
    no_better : (v : Limit) → T (better_limit s v Unlimited) → ⊥
    no_better Unlimited k = k
    no_better (At q) k = k
better_limit-trans s Unlimited v (At r) h k = tt
better_limit-trans s (At p) Unlimited w h k = absurd h
better_limit-trans s (At p) (At q) Unlimited h k = k
better_limit-trans s (At p) (At q) (At r) h k = better_price-trans s p.0 q.0 r.0 h k

-- the limit of one that is behind is not better
pub ahead-limit : (s : Side) (a b : Resting) → T (ahead s a b) → T (not (better_limit s b.limit a.limit))
ahead-limit s a b h =
    ⊎_elim
    (λ k. not_T (better_limit s b.limit a.limit) (λ l. better_limit-irrefl s a.limit (better_limit-trans s a.limit b.limit a.limit k l)))
    (λ k. (and_both (not (better_limit s b.limit a.limit)) _ k).0)
    (or_cases (better_limit s a.limit b.limit) (earlier s a b) h)

pub ahead-irrefl : (s : Side) (a : Resting) → T (ahead s a a) → ⊥
ahead-irrefl s a h =
    ⊎_elim
    (better_limit-irrefl s a.limit)
    (λ k. let l = (and_both (not (better_limit s a.limit a.limit)) _ k).1 in omega tests)
    (or_cases (better_limit s a.limit a.limit) (earlier s a a) h)

pub ahead-total : (s : Side) (a b : Resting) → a.number ≢ b.number → T (ahead s a b) ⊎ T (ahead s b a)
ahead-total s a b n =
    ⊎_elim
    (λ h. inl (or_left (better_limit s a.limit b.limit) _ h))
    (λ h. ⊎_elim
    (λ k. inr (or_left (better_limit s b.limit a.limit) _ k))
    (λ k. ⊎_elim
    (λ l. inl (or_right (better_limit s a.limit b.limit) _ (and_intro (not (better_limit s b.limit a.limit)) _ k l)))
    (λ l. inr (or_right (better_limit s b.limit a.limit) _ (and_intro (not (better_limit s a.limit b.limit)) _ h (omega tests))))
    (decided (ltb a.number b.number)))
    (decided (better_limit s b.limit a.limit)))
    (decided (better_limit s a.limit b.limit))

pub ahead-trans : (s : Side) (a b c : Resting) → T (ahead s a b) → T (ahead s b c) → T (ahead s a c)
ahead-trans s a b c h k =
    ⊎_elim
    (λ ab. or_left (better_limit s a.limit c.limit) _ (⊎_elim (λ ac. ac) (λ cb. absurd (T_not (better_limit s c.limit b.limit) (ahead-limit s b c k) cb)) (better_limit-or s a.limit c.limit b.limit ab)))
    (λ ab. ⊎_elim
    (λ bc. or_left (better_limit s a.limit c.limit) _ (⊎_elim (λ ba. absurd (T_not (better_limit s b.limit a.limit) (ahead-limit s a b h) ba)) (λ ac. ac) (better_limit-or s b.limit a.limit c.limit bc)))
    (λ bc.
    let l = (and_both (not (better_limit s b.limit a.limit)) _ ab).1 in
    let m = (and_both (not (better_limit s c.limit b.limit)) _ bc).1 in
    or_right (better_limit s a.limit c.limit) _ (and_intro (not (better_limit s c.limit a.limit)) _
    (not_T (better_limit s c.limit a.limit) (λ ca. ⊎_elim (λ cb. T_not (better_limit s c.limit b.limit) (ahead-limit s b c k) cb) (λ ba. T_not (better_limit s b.limit a.limit) (ahead-limit s a b h) ba) (better_limit-or s c.limit b.limit a.limit ca)))
    (omega tests)))
    (or_cases (better_limit s b.limit c.limit) (earlier s b c) k))
    (or_cases (better_limit s a.limit b.limit) (earlier s a b) h)

distinct-comparable : (s : Side) (os : List Resting) → Distinct os → Comparable (ahead s) os
distinct-comparable s [] d = tt
distinct-comparable s (o ∷ os) (others, d) = ((λ x m. ahead-total s o x (λ e. others x m (sym e))), distinct-comparable s os d)

-- The ranked queue is in that order ..
pub ranked-in-order : (s : Side) (book : List Resting) → Distinct book → Ranked (ahead s) (ranked s book)
unfolding ranked
ranked-in-order s book d = rank-ranked (ahead s) (ahead-trans s) (keep (on_side s) book) (distinct-comparable s (keep (on_side s) book) (distinct-keep (on_side s) book d))

-- .. and holds exactly the orders of the side ..
pub ranked-elim : (s : Side) (book : List Resting) {o : Resting} → o ∈ ranked s book → (o ∈ book) × T (on_side s o)
unfolding ranked
ranked-elim s book m = keep-elim (on_side s) book (rank-elim (ahead s) (keep (on_side s) book) m)

pub ranked-intro : (s : Side) {book : List Resting} {o : Resting} → o ∈ book → T (on_side s o) → o ∈ ranked s book
unfolding ranked
ranked-intro s m h = rank-intro (ahead s) (keep-intro (on_side s) m h)

-- .. each as often as the book does
pub ranked-sum : (s : Side) (book : List Resting) (w : Resting → ℕ) → sum w (ranked s book) ≡ sum (λ o. counted (on_side s o) (w o)) book
unfolding ranked
ranked-sum s book w = rank-sum (ahead s) w (keep (on_side s) book) ∙ keep-sum (on_side s) w book

-- It doesn't depend on places: two books with the same orders have one ranked queue.
pub ranked-same : (s : Side) (book other : List Resting) → Distinct book → Distinct other → ((o : Resting) → o ∈ book → o ∈ other) → ((o : Resting) → o ∈ other → o ∈ book)
    → ranked s book ≡ ranked s other
ranked-same s book other d e to from =
    ranked-unique (ahead s) (ahead-trans s) (ahead-irrefl s) (ranked s book) (ranked s other) (ranked-in-order s book d) (ranked-in-order s other e)
    (λ o m. let (n, h) = ranked-elim s book m in ranked-intro s (to o n) h)
    (λ o m. let (n, h) = ranked-elim s other m in ranked-intro s (from o n) h)
