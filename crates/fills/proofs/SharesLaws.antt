-- Shares along a queue, over its open quantities alone: what each order gets of a total.
use Rattle.std.specs.Prelude.{ℕ, zero, suc, ◌+◌, ◌-◌, ◌<◌, ◌≤◌, min, ◌≢◌, ◌≡◌, refl, List, [], ◌∷◌, ◌++◌, map, length, get_or, set, take, drop}
use Rattle.std.proofs.Common.{sym, ap, ◌∙◌, append-nil, add-one, arith, drop_of_length-le, take-suc-set, drop-cons}
use Rattle.std.proofs.Math.Seq.{append_snoc}
use Rattle.queue.specs.RankNumbers.{place_of_rank}
use Rattle.fills.specs.Shares.{lessened, shares_of}

-- nothing is shared of nothing; else the first share is taken off
shares-none : (xs : List ℕ) → shares_of 0 xs ≡ []
unfolding shares_of
shares-none [] = refl
shares-none (x ∷ xs) = refl

shares-more : (total x : ℕ) (xs : List ℕ) → total ≢ 0 → shares_of total (x ∷ xs) ≡ min total x ∷ shares_of (total - min total x) xs
unfolding shares_of
shares-more zero x xs n = absurd (n refl)
shares-more (suc total) x xs n = let e : suc total - x ≡ suc total - min (suc total) x = omega arith in rw e

-- The loops, turn by turn: what is written and what is still to come are the whole.
module _ (f : ℕ → ℕ) (ranks : List ℕ) (i total : ℕ) where
  -- shares: what is left of the total is still to be shared out
  pub shares-step : (list : List ℕ) → i < length ranks → i < length list → total ≢ 0
      → take (i + 1) (set list i (min total (f (get_or ranks i 0)))) ++ shares_of (total - min total (f (get_or ranks i 0))) (map f (drop (i + 1) ranks)) ≡ take i list ++ shares_of total (map f (drop i ranks))
  shares-step list h k n =
      rw (add-one, take-suc-set list i (min total (f (get_or ranks i 0))) k, drop-cons ranks i 0 h)
      (append_snoc (take i list) (min total (f (get_or ranks i 0))) (shares_of (total - min total (f (get_or ranks i 0))) (map f (drop (suc i) ranks)))
      ∙ ap (λ (l : List ℕ). take i list ++ l) (sym (shares-more total (f (get_or ranks i 0)) (map f (drop (suc i) ranks)) n)))

  pub shares-end : (list : List ℕ) → length ranks ≤ i → take i list ≡ take i list ++ shares_of total (map f (drop i ranks))
  unfolding shares_of
  shares-end list h = rw (drop_of_length-le ranks h) (sym (append-nil (take i list)))

  pub shares-stop : (list : List ℕ) → total ≡ 0 → take i list ≡ take i list ++ shares_of total (map f (drop i ranks))
  shares-stop list e = rw (e, shares-none (map f (drop i ranks))) (sym (append-nil (take i list)))

-- the column: share i is taken off the place of rank i
pub lessened-step : (ranks shares lefts : List ℕ) (i : ℕ) → i < length ranks → i < length shares
    → lessened (drop (i + 1) ranks) (drop (i + 1) shares) (set lefts (place_of_rank (get_or ranks i 0)) (get_or lefts (place_of_rank (get_or ranks i 0)) 0 - get_or shares i 0)) ≡ lessened (drop i ranks) (drop i shares) lefts
unfolding lessened
lessened-step ranks shares lefts i h k = rw (add-one, drop-cons ranks i 0 h, drop-cons shares i 0 k)

pub lessened-end : (ranks shares lefts : List ℕ) (i : ℕ) → length shares ≤ i → lefts ≡ lessened (drop i ranks) (drop i shares) lefts
unfolding lessened
lessened-end ranks shares lefts i h = rw (drop_of_length-le shares h) (sym (none (drop i ranks)))
  where
    none : (rs : List ℕ) → lessened rs [] lefts ≡ lefts
    none [] = refl
    none (r ∷ rs) = refl
