-- Pairing: 01 "Outcomes", "the trades pair the two queues from the front; each is the smaller of the two open quantities at the fronts".
use Rattle.std.specs.Prelude.{ℕ, zero, suc, ◌+◌, ◌-◌, ◌≤◌, ◌<◌, min, Bool, true, false, not, cond, ◌≡◌, refl, List, [], ◌∷◌, T, leb}
use Rattle.std.proofs.Common.{⊎_elim, arith, leb→le, le→leb}
use mathlib.Core.List.Memᴰ
use Rattle.std.proofs.Math.ListN.{length}
use Rattle.std.proofs.Math.Dec.{eqb}
use Rattle.lists.specs.Tests.{tests, decided}
use Rattle.lists.specs.Sums.{◌∈◌, counted, counted-le, counted-cut, sum_mono}
use Rattle.terms.specs.declared.orders.{Side.TheVariants.Buy, Side.TheVariants.Sell}
use Rattle.fills.specs.Fill.{Fill, filled_by, has_number}
use Rattle.trades.specs.declared.Trade.{Trade}
use Rattle.trades.specs.Trades.{traded_by, traded, volume}
use Rattle.trades.specs.Pairing.{amount, amount_of, paired, pairs, rest, served}

amount-le : (f : ℕ → Bool) (xs : List Fill) → amount_of f xs ≤ amount xs
amount-le f xs = sum_mono _ _ xs (λ x m. counted-le (f x.order.number) x.quantity)

-- what is traded is what the queue is to get no more
served-amount : (f : ℕ → Bool) (q : ℕ) (x : Fill) (xs : List Fill) → q ≤ x.quantity → amount_of f (x ∷ xs) ≡ counted (f x.order.number) q + amount_of f (served q x xs)
served-amount f q x xs h = go (leb x.quantity q) (leb→le _ _)
  where
    cut : counted (f x.order.number) x.quantity ≡ counted (f x.order.number) q + counted (f x.order.number) (x.quantity - q)
    cut = counted-cut (f x.order.number) x.quantity q h

    go : (b : Bool) → (T b → x.quantity ≤ q) → amount_of f (x ∷ xs) ≡ counted (f x.order.number) q + amount_of f (cond b xs (rest q x ∷ xs))
    go true k = omega (arith, cut, k tt, counted-le (f x.order.number) (x.quantity - q))
    go false k = omega (arith, cut)

-- a queue grows by nothing, and is shorter where its front is traded in full
served-length : (q : ℕ) (x : Fill) (xs : List Fill) → (length (served q x xs) ≤ suc (length xs)) × (x.quantity ≤ q → length (served q x xs) ≤ length xs)
served-length q x xs = go (leb x.quantity q) (le→leb _ _)
  where
    go : (b : Bool) → (x.quantity ≤ q → T b) → (length (cond b xs (rest q x ∷ xs)) ≤ suc (length xs)) × (x.quantity ≤ q → length (cond b xs (rest q x ∷ xs)) ≤ length xs)
    go true k = omega arith
    go false k = (omega arith, λ h. absurd (k h))

served-all : (P : Fill → Type 0) (q : ℕ) (x : Fill) (xs : List Fill) → ((y : Fill) → y ∈ xs → P y) → (q < x.quantity → P (rest q x)) → (y : Fill) → y ∈ served q x xs → P y
served-all P q x xs h left y m = go (leb x.quantity q) (λ k. omega tests) m
  where
    go : (b : Bool) → (T (not b) → q < x.quantity) → y ∈ cond b xs (rest q x ∷ xs) → P y
    go true k m = h y m
    go false k (Memᴰ.head e) = rw e (left (k tt))
    go false k (Memᴰ.tail m) = h y m

-- so one of the two is shorter
both-length : (b s : Fill) (bs ss : List Fill) (q : ℕ) → min b.quantity s.quantity ≤ q → length (served q b bs) + length (served q s ss) ≤ suc (length bs + length ss)
both-length b s bs ss q h =
    ⊎_elim
    (λ k. omega (arith, (served-length q b bs).1 (omega tests), (served-length q s ss).0))
    (λ k. omega (arith, (served-length q b bs).0, (served-length q s ss).1 (omega tests)))
    (decided (leb b.quantity s.quantity))

-- where the two queues come to the same, the orders that pass a test trade what they are to get
pairs-amount : (f : ℕ → Bool) (k : ℕ) (bs ss : List Fill) → length bs + length ss ≤ k → amount bs ≡ amount ss
    → (traded_by f Buy (pairs k bs ss) ≡ amount_of f bs) × (traded_by f Sell (pairs k bs ss) ≡ amount_of f ss)
pairs-amount f zero [] [] h e = omega arith
pairs-amount f zero [] (s ∷ ss) h e = omega arith
pairs-amount f zero (b ∷ bs) ss h e = omega arith
pairs-amount f (suc k) [] ss h e = omega (arith, amount-le f ss)
pairs-amount f (suc k) (b ∷ bs) [] h e = omega (arith, amount-le f (b ∷ bs))
pairs-amount f (suc k) (b ∷ bs) (s ∷ ss) h e =
    let q : ℕ = min b.quantity s.quantity in
    let qb : q ≤ b.quantity = omega arith in
    let qs : q ≤ s.quantity = omega arith in
    let ih = pairs-amount f k (served q b bs) (served q s ss)
    (omega (arith, both-length b s bs ss q (omega arith)))
    (omega (arith, served-amount (λ m. true) q b bs qb, served-amount (λ m. true) q s ss qs)) in
    omega (arith, ih.0, ih.1, served-amount f q b bs qb, served-amount f q s ss qs)

pairs-count : (k : ℕ) (bs ss : List Fill) → length (pairs k bs ss) ≤ length bs + length ss - 1
pairs-count zero bs ss = omega arith
pairs-count (suc k) [] ss = omega arith
pairs-count (suc k) (b ∷ bs) [] = omega arith
pairs-count (suc k) (b ∷ bs) (s ∷ ss) =
    let q : ℕ = min b.quantity s.quantity in
    omega (arith, pairs-count k (served q b bs) (served q s ss), both-length b s bs ss q (omega arith))

-- what holds of a trade of any two fills, and of what is left of them, holds of every trade
pairs-all : (P Q : Fill → Type 0) (R : Trade → Type 0)
    → ((x : Fill) (q : ℕ) → P x → q < x.quantity → P (rest q x))
    → ((x : Fill) (q : ℕ) → Q x → q < x.quantity → Q (rest q x))
    → ((b s : Fill) → P b → Q s → R (record { buy = b.order.number; sell = s.order.number; quantity = min b.quantity s.quantity }))
    → (k : ℕ) (bs ss : List Fill) → ((x : Fill) → x ∈ bs → P x) → ((x : Fill) → x ∈ ss → Q x) → (t : Trade) → t ∈ pairs k bs ss → R t
pairs-all P Q R p q r zero bs ss h g t m = absurd (Memᴰ.not-nil m)
pairs-all P Q R p q r (suc k) [] ss h g t m = absurd (Memᴰ.not-nil m)
pairs-all P Q R p q r (suc k) (b ∷ bs) [] h g t m = absurd (Memᴰ.not-nil m)
pairs-all P Q R p q r (suc k) (b ∷ bs) (s ∷ ss) h g t m =
    let n : ℕ = min b.quantity s.quantity in
    let hb = h b (Memᴰ.head refl) in
    let gs = g s (Memᴰ.head refl) in
    ⊎_elim
    (λ e. rw e (r b s hb gs))
    (λ m'. pairs-all P Q R p q r k (served n b bs) (served n s ss)
    (served-all P n b bs (λ x i. h x (Memᴰ.tail i)) (p b n hb)) (served-all Q n s ss (λ x i. g x (Memᴰ.tail i)) (q s n gs)) t m')
    (Memᴰ.cases_cons m)

-- Each order trades what it is to get ..
module _ (bs ss : List Fill) (same : amount bs ≡ amount ss) where
  pub paired-traded : (n : ℕ) → (traded Buy n (paired bs ss) ≡ filled_by (has_number n) bs) × (traded Sell n (paired bs ss) ≡ filled_by (has_number n) ss)
  unfolding traded
  paired-traded n = pairs-amount (λ m. eqb m n) (length bs + length ss) bs ss (omega arith) same

  pub paired-volume : volume (paired bs ss) ≡ amount bs
  paired-volume = (pairs-amount (λ m. true) (length bs + length ss) bs ss (omega arith) same).0

-- .. in at most one trade fewer than there are fills
pub paired-count : (bs ss : List Fill) → length (paired bs ss) ≤ length bs + length ss - 1
paired-count bs ss = pairs-count (length bs + length ss) bs ss

-- every trade is between the orders of two fills
pub paired-parties : (P Q : ℕ → Type 0) (bs ss : List Fill) → ((x : Fill) → x ∈ bs → P x.order.number) → ((x : Fill) → x ∈ ss → Q x.order.number)
    → (t : Trade) → t ∈ paired bs ss → P t.buy × Q t.sell
paired-parties P Q bs ss =
    pairs-all (λ x. P x.order.number) (λ x. Q x.order.number) (λ t. P t.buy × Q t.sell) (λ x q h k. h) (λ x q h k. h) (λ b s h g. (h, g)) (length bs + length ss) bs ss

-- .. and is of something, where each fill is
pub paired-positive : (bs ss : List Fill) → ((x : Fill) → x ∈ bs → 0 < x.quantity) → ((x : Fill) → x ∈ ss → 0 < x.quantity) → (t : Trade) → t ∈ paired bs ss → 0 < t.quantity
paired-positive bs ss =
    pairs-all (λ x. 0 < x.quantity) (λ x. 0 < x.quantity) (λ t. 0 < t.quantity) (λ x q h k. omega arith) (λ x q h k. omega arith) (λ b s h g. omega arith) (length bs + length ss) bs ss
