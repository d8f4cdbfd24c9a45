-- Numbers are distinct: 01 "A number is never given twice". The one premise of the laws of rank and of demand 3.
use Rattle.std.specs.Prelude.{ℕ, ◌+◌, ◌≤◌, Bool, true, false, cond, ◌≢◌, ◌≡◌, refl, List, [], ◌∷◌, ◌++◌, T}
use Rattle.std.proofs.Common.{⊎_elim, sym, ap, ◌∙◌, arith}
use mathlib.Core.List.Memᴰ
use Rattle.lists.specs.Sums.{◌∈◌, counted, sum}
use Rattle.lists.specs.Choice.{keep, keep-elim}
use Rattle.terms.specs.Orders.{Resting}
use Rattle.queue.specs.Distinct.{Distinct}

-- two orders with one number are one order
pub distinct-one : {a b : Resting} (os : List Resting) → Distinct os → a ∈ os → b ∈ os → a.number ≡ b.number → a ≡ b
distinct-one [] d m _ i = elim m [ ]
distinct-one (o ∷ os) d (Memᴰ.head e) (Memᴰ.head f) i = e ∙ sym f
distinct-one (o ∷ os) (others, d) (Memᴰ.head e) (Memᴰ.tail m) i = absurd (others _ m (cc))
distinct-one (o ∷ os) (others, d) (Memᴰ.tail m) (Memᴰ.head f) i = absurd (others _ m (cc))
distinct-one (o ∷ os) (others, d) (Memᴰ.tail m) (Memᴰ.tail m') i = distinct-one os d m m' i

pub distinct-keep : (f : Resting → Bool) (os : List Resting) → Distinct os → Distinct (keep f os)
distinct-keep f [] d = tt
distinct-keep f (o ∷ os) (others, d) = go (f o) (distinct-keep f os d)
  where
    go : (b : Bool) → Distinct (keep f os) → Distinct (cond b (o ∷ keep f os) (keep f os))
    go true below = ((λ x m. others x (keep-elim f os m).0), below)
    go false below = below

-- what is counted at one number is counted once at most
pub distinct-sum : (n top : ℕ) (f : ℕ → Bool) (w : Resting → ℕ) (os : List Resting) → Distinct os → ((m : ℕ) → T (f m) → m ≡ n) → ((o : Resting) → o ∈ os → o.number ≡ n → w o ≤ top)
    → sum (λ o. counted (f o.number) (w o)) os ≤ top
distinct-sum n top f w [] d only h = omega arith
distinct-sum n top f w (o ∷ os) (others, d) only h = go (f o.number) (only o.number) (λ top h. distinct-sum n top f w os d only h)
  where
    go : (b : Bool) → (T b → o.number ≡ n) → ((top : ℕ) → ((x : Resting) → x ∈ os → x.number ≡ n → w x ≤ top) → sum (λ x. counted (f x.number) (w x)) os ≤ top)
        → counted b (w o) + sum (λ x. counted (f x.number) (w x)) os ≤ top
    go true e below = omega (arith, h o (Memᴰ.head refl) (e tt), below 0 (λ x m i. absurd (others x m (i ∙ sym (e tt)))))
    go false e below = omega (arith, below top (λ x m i. h x (Memᴰ.tail m) i))

-- one more order, with a number that none has
pub distinct_snoc : (os : List Resting) (o : Resting) → Distinct os → ((x : Resting) → x ∈ os → x.number ≢ o.number) → Distinct (os ++ (o ∷ []))
distinct_snoc [] o d new = ((λ x m. absurd (Memᴰ.not-nil m)), tt)
distinct_snoc (y ∷ ys) o (others, d) new = (
  (λ x m. ⊎_elim (others x) (λ k i. new y (Memᴰ.head refl) (sym i ∙ ap (λ (z : Resting). z.number) (Memᴰ.eq_of_singleton k))) (Memᴰ.append_cases ys m)),
  distinct_snoc ys o d (λ x m. new x (Memᴰ.tail m)),
)
