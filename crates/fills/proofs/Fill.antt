-- Filling: 01 "Outcomes", "both sides are filled in rank order up to the executable quantity".
use Rattle.std.specs.Prelude.{ℕ, zero, suc, ◌+◌, ◌-◌, ◌≤◌, ◌<◌, min, Bool, true, false, ◌≢◌, ◌≡◌, refl, List, [], ◌∷◌, T, eqb, ltb, length}
use Rattle.std.proofs.Common.{⊎_elim, sym, ap, subst, subst₂, ◌∙◌, arith, ne_eqb}
use mathlib.Core.List.Memᴰ
use Rattle.std.proofs.Math.Dec.{eqb_refl}
use Rattle.lists.specs.Tests.{tests, decided, passes}
use Rattle.lists.specs.Sums.{◌∈◌, counted, counted-add, counted-cut, counted-nothing, counted-pass, sum, sum-add, sum-none, sum_same}
use Rattle.lists.specs.Ranking.{Ranked}
use Rattle.terms.specs.Orders.{Resting}
use Rattle.terms.specs.declared.orders.{Side.Side}
use Rattle.queue.specs.Distinct.{Distinct}
use Rattle.queue.proofs.Distinct.{distinct-one}
use Rattle.queue.specs.Rank.{ahead}
use Rattle.queue.proofs.Rank.{ahead-irrefl, ahead-trans}
use Rattle.fills.specs.Fill.{Fill, FrontPart, fill, filled_by, has_number}

-- nothing is left to fill with
pub fill-zero : (os : List Resting) → fill 0 os ≡ []
fill-zero [] = refl
fill-zero (o ∷ os) = refl

pub fill-length : (q : ℕ) (os : List Resting) → length (fill q os) ≤ length os
fill-length q [] = omega arith
fill-length zero (o ∷ os) = omega arith
fill-length (suc q) (o ∷ os) = omega (arith, fill-length (suc q - o.left) os)

-- no order gets more than it has open
pub fill-le : (f : Resting → Bool) (q : ℕ) (os : List Resting) → filled_by f (fill q os) ≤ sum (λ o. counted (f o) o.left) os
fill-le f q [] = omega arith
fill-le f zero (o ∷ os) = omega arith
fill-le f (suc q) (o ∷ os) = omega (arith, counted-cut (f o) o.left (min (suc q) o.left) (omega arith), fill-le f (suc q - o.left) os)

-- what holds of a fill of any member holds of every fill
pub fill-all : (P : Fill → Type 0) (q : ℕ) (os : List Resting) → ((o : Resting) (n : ℕ) → o ∈ os → P (record { order = o; quantity = min (suc n) o.left })) → (x : Fill) → x ∈ fill q os → P x
fill-all P q [] h x m = absurd (Memᴰ.not-nil m)
fill-all P zero (o ∷ os) h x m = absurd (Memᴰ.not-nil m)
fill-all P (suc q) (o ∷ os) h x (Memᴰ.head e) = rw e (h o q (Memᴰ.head refl))
fill-all P (suc q) (o ∷ os) h x (Memᴰ.tail m) = fill-all P (suc q - o.left) os (λ y n k. h y n (Memᴰ.tail k)) x m

pub ranked-front : (s : Side) (f : Resting → Bool) → ((a b : Resting) → T (ahead s a b) → T (f b) → T (f a)) → (os : List Resting) → Ranked (ahead s) os → FrontPart f os
ranked-front s f closed [] r = tt
ranked-front s f closed (o ∷ os) (h, r) = ((λ x m k. closed o x (h x m) k), ranked-front s f closed os r)

pub front-all : (os : List Resting) → FrontPart (λ o. true) os
front-all [] = tt
front-all (o ∷ os) = ((λ x m k. tt), front-all os)

-- nothing is counted where none passes
pub none_pass : (f : Resting → Bool) (os : List Resting) → ((x : Resting) → x ∈ os → T (f x) → ⊥) → sum (λ o. counted (f o) o.left) os ≡ 0
none_pass f os h = sum-none (λ o. counted (f o) o.left) os (λ o m. go (f o) o.left (h o m))
  where
    go : (b : Bool) (n : ℕ) → (T b → ⊥) → counted b n ≡ 0
    go true n k = absurd (k tt)
    go false n k = refl

-- A front part of the queue gets q, or all that it has open.
pub fill-front : (f : Resting → Bool) (q : ℕ) (os : List Resting) → FrontPart f os → filled_by f (fill q os) ≡ min q (sum (λ o. counted (f o) o.left) os)
fill-front f q [] c = omega arith
fill-front f zero (o ∷ os) c = omega arith
fill-front f (suc q) (o ∷ os) (first, c) = go (f o) (λ x m. first x m) (fill-front f (suc q - o.left) os c)
  where
    go : (b : Bool) → ((x : Resting) → x ∈ os → T (f x) → T b) → filled_by f (fill (suc q - o.left) os) ≡ min (suc q - o.left) (sum (λ o. counted (f o) o.left) os)
        → counted b (min (suc q) o.left) + filled_by f (fill (suc q - o.left) os) ≡ min (suc q) (counted b o.left + sum (λ o. counted (f o) o.left) os)
    go true h e = omega arith
    go false h e = omega (arith, none_pass f os h)

-- .. and where q is within what the front part has open, nobody else gets anything
pub fill-passes : (f : Resting → Bool) (q : ℕ) (os : List Resting) → FrontPart f os → q ≤ sum (λ o. counted (f o) o.left) os → (x : Fill) → x ∈ fill q os → T (f x.order)
fill-passes f q [] c h x m = absurd (Memᴰ.not-nil m)
fill-passes f zero (o ∷ os) c h x m = absurd (Memᴰ.not-nil m)
fill-passes f (suc q) (o ∷ os) (first, c) h x m = go (f o) refl h first (λ k n. fill-passes f (suc q - o.left) os c k x n) m
  where
    others : ℕ
    others = sum (λ o. counted (f o) o.left) os

    go : (b : Bool) → f o ≡ b → suc q ≤ counted b o.left + others → ((y : Resting) → y ∈ os → T (f y) → T b) → (suc q - o.left ≤ others → x ∈ fill (suc q - o.left) os → T (f x.order))
        → x ∈ fill (suc q) (o ∷ os) → T (f x.order)
    go true e h first below (Memᴰ.head p) = rw (p, e) tt
    go true e h first below (Memᴰ.tail n) = below (omega arith) n
    go false e h first below n = absurd (omega (arith, none_pass f os first))

-- What is filled, added up by the numbers of a book that has each of them once.
pick-number : (f : Resting → Bool) (w : ℕ) {o : Resting} (book : List Resting) → Distinct book → o ∈ book → sum (λ x. counted (f x) (counted (eqb o.number x.number) w)) book ≡ counted (f o) w
pick-number f w {o = o} [] _ x3 = elim x3 [ ]
pick-number f w {o} (y ∷ ys) (others, d) (Memᴰ.head e) = omega (arith, here, sum-none (λ x. counted (f x) (counted (eqb o.number x.number) w)) ys later)
  where
    here : counted (f y) (counted (eqb o.number y.number) w) ≡ counted (f o) w
    here = rw (e, passes (eqb y.number y.number) (eqb_refl y.number))

    later : (x : Resting) → x ∈ ys → counted (f x) (counted (eqb o.number x.number) w) ≡ 0
    later x m = rw (ne_eqb o.number x.number (λ i. others x m (sym i ∙ ap (λ (z : Resting). z.number) e))) (counted-nothing (f x))
pick-number f w {o} (y ∷ ys) (others, d) (Memᴰ.tail m) =
    rw (ne_eqb o.number y.number (others o m)) (omega (arith, counted-nothing (f y), pick-number f w ys d m))

pub filled-by-number : (f : Resting → Bool) (book : List Resting) → Distinct book → (fills : List Fill) → ((x : Fill) → x ∈ fills → x.order ∈ book)
    → sum (λ o. counted (f o) (filled_by (has_number o.number) fills)) book ≡ filled_by f fills
filled-by-number f book d [] known = sum-none (λ o. counted (f o) 0) book (λ o m. counted-nothing (f o))
filled-by-number f book d (x ∷ xs) known = omega (
  arith,
  sum_same (λ o. counted (f o) (filled_by (has_number o.number) (x ∷ xs))) (λ o. this o + rest o) book (λ o m. counted-add (f o) _ _),
  sum-add this rest book,
  pick-number f x.quantity book d (known x (Memᴰ.head refl)),
  filled-by-number f book d xs (λ y m. known y (Memᴰ.tail m)),
)
  where
    this : Resting → ℕ
    this o = counted (f o) (counted (eqb x.order.number o.number) x.quantity)

    rest : Resting → ℕ
    rest o = counted (f o) (filled_by (has_number o.number) xs)

-- where one behind the front gets anything, the front is full and the rest is filled with what is left
fill-past : (n q : ℕ) (o : Resting) (os : List Resting) → o.number ≢ n → 0 < filled_by (has_number n) (fill q (o ∷ os))
    → (o.left < q) × (0 < filled_by (has_number n) (fill (q - o.left) os))
fill-past n zero o os ne k = absurd (omega arith)
fill-past n (suc q) o os ne k = (⊎_elim (λ h. omega tests) (λ h. absurd (nothing (omega tests))) (decided (ltb o.left (suc q))), behind)
  where
    behind : 0 < filled_by (has_number n) (fill (suc q - o.left) os)
    behind = let z = rw (ne_eqb o.number n ne) at k in omega arith

    nothing : suc q - o.left ≡ 0 → ⊥
    nothing e = let z = rw (e, fill-zero os) at behind in omega arith

-- the front's share, and the shares behind it
fill-first : (q : ℕ) (o : Resting) (os : List Resting) → o.left < q → o.left ≤ filled_by (has_number o.number) (fill q (o ∷ os))
fill-first zero o os h = absurd (omega arith)
fill-first (suc q) o os h = omega (arith, counted-pass (eqb o.number o.number) (min (suc q) o.left) (eqb_refl o.number))

fill-rest : (f : Resting → Bool) (q : ℕ) (o : Resting) (os : List Resting) → o.left < q → filled_by f (fill (q - o.left) os) ≤ filled_by f (fill q (o ∷ os))
fill-rest f zero o os h = absurd (omega arith)
fill-rest f (suc q) o os h = omega arith

-- In rank order: where an order gets anything, every better ranked one is full.
pub fill-in-order : (s : Side) {a b : Resting} (q : ℕ) (os : List Resting) → Ranked (ahead s) os → Distinct os → a ∈ os → b ∈ os → T (ahead s a b)
    → 0 < filled_by (has_number b.number) (fill q os) → a.left ≤ filled_by (has_number a.number) (fill q os)
fill-in-order s {a = a} {b = b} q [] r d x6 _ h k = elim x6 [ ]
fill-in-order s {a} {b} q (o ∷ os) r d (Memᴰ.head e) (Memᴰ.head f) h k = absurd (ahead-irrefl s o (subst₂ (λ (x y : Resting). T (ahead s x y)) e f h))
fill-in-order s {a} {b} q (o ∷ os) r (others, d) (Memᴰ.head e) (Memᴰ.tail n) h k =
    rw e (fill-first q o os (fill-past b.number q o os (λ i. others b n (sym i)) k).0)
fill-in-order s {a} {b} q (o ∷ os) (first, r) d (Memᴰ.tail m) (Memᴰ.head f) h k =
    absurd (ahead-irrefl s o (ahead-trans s o a o (first a m) (subst (λ (y : Resting). T (ahead s a y)) f h)))
fill-in-order s {a} {b} q (o ∷ os) (first, r) (others, d) (Memᴰ.tail m) (Memᴰ.tail n) h k =
    let (full, more) = fill-past b.number q o os (λ i. others b n (sym i)) k in
    omega (arith, fill-in-order s (q - o.left) os r d m n h more, fill-rest (has_number a.number) q o os full)

-- a queue in rank order has each number once, where its book does
pub ranked-distinct : (s : Side) (book os : List Resting) → Distinct book → ((o : Resting) → o ∈ os → o ∈ book) → Ranked (ahead s) os → Distinct os
ranked-distinct s book [] d known r = tt
ranked-distinct s book (o ∷ os) d known (first, r) = (
  (λ x m i. ahead-irrefl s o (subst (λ (y : Resting). T (ahead s o y)) (distinct-one book d (known x (Memᴰ.tail m)) (known o (Memᴰ.head refl)) i) (first x m))),
  ranked-distinct s book os d (λ x m. known x (Memᴰ.tail m)) r,
)
