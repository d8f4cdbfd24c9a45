-- Pairing over shares: the same trades as `paired`, from the columns that the code has.
use Rattle.std.specs.Prelude.{ℕ, zero, suc, ◌+◌, ◌-◌, min, Bool, true, false, cond, ◌≡◌, refl, List, [], ◌∷◌, ◌++◌, map, leb, length}
use Rattle.std.proofs.Common.{ap}
use Rattle.fills.specs.Fill.{Fill}
use Rattle.trades.specs.declared.{Trade.Trade}
use Rattle.trades.specs.Pairing.{rest, served, pairs, paired}
use Rattle.trades.specs.OverShares.{numbers_in, numbers_left, share_pairs, shares_in, shares_left}

-- no trades where a queue has no shares
pub no-bought : (k : ℕ) (bn sn sq : List ℕ) → share_pairs k bn [] sn sq ≡ []
unfolding share_pairs
no-bought zero bn sn sq = refl
no-bought (suc k) [] sn sq = refl
no-bought (suc k) (b ∷ bn) sn sq = refl

pub no-sold : (k : ℕ) (bn bq sn : List ℕ) → share_pairs k bn bq sn [] ≡ []
unfolding share_pairs
no-sold zero bn bq sn = refl
no-sold (suc k) [] bq sn = refl
no-sold (suc k) (b ∷ bn) [] sn = refl
no-sold (suc k) (b ∷ bn) (x ∷ bq) [] = refl
no-sold (suc k) (b ∷ bn) (x ∷ bq) (s ∷ sn) = refl

served-numbers : (q : ℕ) (x : Fill) (xs : List Fill) (more : List ℕ) → numbers_left q x.quantity x.order.number (numbers_in xs ++ more) ≡ numbers_in (served q x xs) ++ more
served-numbers q x xs more = go (leb x.quantity q)
  where
    go : (b : Bool) → cond b (numbers_in xs ++ more) (x.order.number ∷ (numbers_in xs ++ more)) ≡ numbers_in (cond b xs (rest q x ∷ xs)) ++ more
    go true = refl
    go false = refl

served-shares : (q : ℕ) (x : Fill) (xs : List Fill) → shares_left q x.quantity (shares_in xs) ≡ shares_in (served q x xs)
served-shares q x xs = go (leb x.quantity q)
  where
    go : (b : Bool) → cond b (shares_in xs) ((x.quantity - q) ∷ shares_in xs) ≡ shares_in (cond b xs (rest q x ∷ xs))
    go true = refl
    go false = refl

share-pairs-of : (k : ℕ) (bs ss : List Fill) (more-b more-s : List ℕ) → share_pairs k (numbers_in bs ++ more-b) (shares_in bs) (numbers_in ss ++ more-s) (shares_in ss) ≡ pairs k bs ss
unfolding share_pairs
share-pairs-of zero bs ss more-b more-s = refl
share-pairs-of (suc k) [] ss more-b more-s = no-bought (suc k) more-b (numbers_in ss ++ more-s) (shares_in ss)
share-pairs-of (suc k) (b ∷ bs) [] more-b more-s = no-sold (suc k) (numbers_in (b ∷ bs) ++ more-b) (shares_in (b ∷ bs)) more-s
share-pairs-of (suc k) (b ∷ bs) (s ∷ ss) more-b more-s =
    let q = min b.quantity s.quantity in
    ap (λ (l : List Trade). record { buy = b.order.number; sell = s.order.number; quantity = q } ∷ l)
    (rw (served-numbers q b bs more-b, served-shares q b bs, served-numbers q s ss more-s, served-shares q s ss) (share-pairs-of k (served q b bs) (served q s ss) more-b more-s))

pub share-pairs : (bs ss : List Fill) (more-b more-s : List ℕ)
    → share_pairs (length bs + length ss) (map (λ x. x.order.number) bs ++ more-b) (map (λ x. x.quantity) bs) (map (λ x. x.order.number) ss ++ more-s) (map (λ x. x.quantity) ss) ≡ paired bs ss
share-pairs bs ss more-b more-s = share-pairs-of (length bs + length ss) bs ss more-b more-s
