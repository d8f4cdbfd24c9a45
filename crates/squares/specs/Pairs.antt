-- Trades paired by places: under the orders' numbers they are the trades, and each side stands at a rank's place.
use Rattle.std.specs.Prelude.{ℕ, zero, suc, min, Bool, true, false, cond, ◌≡◌, refl, List, [], ◌∷◌, map, leb, get_or}
use Rattle.std.proofs.Common.{⊎_elim, sym, ap, subst, ◌∙◌, arith}
use mathlib.Core.List.Memᴰ
use Rattle.std.proofs.lemmas.Simd.{map-map}
use Rattle.lists.specs.Sums.{◌∈◌, sum-map}
use Rattle.terms.specs.Bounds.{places}
use Rattle.queue.specs.RankNumbers.{place_of_rank, along}
use Rattle.trades.specs.declared.{Trade.Trade}
use Rattle.trades.specs.Trades.{volume}
use Rattle.trades.specs.OverShares.{shares_left, numbers_left, share_pairs}
use Rattle.squares.specs.Square.{cell_of, added_at, added_to}
use Rattle.squares.specs.Naming.{named, place_column, place_at}

-- ---- under other names
names-left : (f : ℕ → ℕ) (q x n : ℕ) (ns : List ℕ) → numbers_left q x (f n) (map f ns) ≡ map f (numbers_left q x n ns)
names-left f q x n ns = go (leb x q)
  where
    go : (b : Bool) → cond b (map f ns) (f n ∷ map f ns) ≡ map f (cond b ns (n ∷ ns))
    go true = refl
    go false = refl

pub pairs-named : (f : ℕ → ℕ) (k : ℕ) (bn bq sn sq : List ℕ) → share_pairs k (map f bn) bq (map f sn) sq ≡ map (named f) (share_pairs k bn bq sn sq)
unfolding share_pairs
pairs-named f zero bn bq sn sq = refl
pairs-named f (suc k) [] bq sn sq = refl
pairs-named f (suc k) (b ∷ bn) [] sn sq = refl
pairs-named f (suc k) (b ∷ bn) (x ∷ bq) [] sq = refl
pairs-named f (suc k) (b ∷ bn) (x ∷ bq) (s ∷ sn) [] = refl
pairs-named f (suc k) (b ∷ bn) (x ∷ bq) (s ∷ sn) (y ∷ sq) =
    let q = min x y in
    ap (λ (l : List Trade). record { buy = f b; sell = f s; quantity = q } ∷ l)
    (rw (names-left f q x b bn, names-left f q y s sn) (pairs-named f k (numbers_left q x b bn) (shares_left q x bq) (numbers_left q y s sn) (shares_left q y sq)))

-- each side of a trade is one of those that were paired
left-of : {m : ℕ} (q x n : ℕ) (ns : List ℕ) → m ∈ numbers_left q x n ns → m ∈ (n ∷ ns)
left-of {m} q x n ns = go (leb x q)
  where
    go : (b : Bool) → m ∈ cond b ns (n ∷ ns) → m ∈ (n ∷ ns)
    go true h = Memᴰ.tail h
    go false h = h

pub pairs_of : (k : ℕ) (bn bq sn sq : List ℕ) (t : Trade) → t ∈ share_pairs k bn bq sn sq → (t.buy ∈ bn) × (t.sell ∈ sn)
unfolding share_pairs
pairs_of zero bn bq sn sq t m = absurd (Memᴰ.not-nil m)
pairs_of (suc k) [] bq sn sq t m = absurd (Memᴰ.not-nil m)
pairs_of (suc k) (b ∷ bn) [] sn sq t m = absurd (Memᴰ.not-nil m)
pairs_of (suc k) (b ∷ bn) (x ∷ bq) [] sq t m = absurd (Memᴰ.not-nil m)
pairs_of (suc k) (b ∷ bn) (x ∷ bq) (s ∷ sn) [] t m = absurd (Memᴰ.not-nil m)
pairs_of (suc k) (b ∷ bn) (x ∷ bq) (s ∷ sn) (y ∷ sq) t m =
    let q = min x y in
    ⊎_elim (λ e. (Memᴰ.head (ap (λ (u : Trade). u.buy) e), Memᴰ.head (ap (λ (u : Trade). u.sell) e)))
    (λ h. let (i, j) = pairs_of k (numbers_left q x b bn) (shares_left q x bq) (numbers_left q y s sn) (shares_left q y sq) t h in (left-of q x b bn i, left-of q y s sn j))
    (Memᴰ.cases_cons m)

-- ---- by places
-- a rank's place, told by the column
along-places : (ranks : List ℕ) → along place_column ranks ≡ map place_of_rank ranks
along-places [] = refl
along-places (r ∷ ranks) = rw (place_at places (place_of_rank r) (omega arith), along-places ranks)

pub along-named : (column ranks : List ℕ) → along column ranks ≡ map (λ p. get_or column p 0) (along place_column ranks)
along-named column ranks = sym (map-map (λ p. get_or column p 0) place_of_rank ranks) ∙ ap (map (λ p. get_or column p 0)) (sym (along-places ranks))

-- .. so that what stands there is of one of the ranks
pub at-a-rank : (ranks : List ℕ) {p : ℕ} → p ∈ along place_column ranks → (r : ℕ) × (r ∈ ranks) × (p ≡ place_of_rank r)
at-a-rank ranks {p} m = go ranks (subst (λ (l : List ℕ). p ∈ l) (along-places ranks) m)
  where
    go : (rs : List ℕ) → p ∈ map place_of_rank rs → (r : ℕ) × (r ∈ rs) × (p ≡ place_of_rank r)
    go [] m = absurd (Memᴰ.not-nil m)
    go (r ∷ rs) m = ⊎_elim (λ e. (r, Memᴰ.head refl, e)) (λ h. let (x, i, e) = go rs h in (x, Memᴰ.tail i, e)) (Memᴰ.cases_cons m)

-- ---- what other names don't change
pub named-volume : (f : ℕ → ℕ) (ts : List Trade) → volume (map (named f) ts) ≡ volume ts
named-volume f ts = sum-map (λ t. t.quantity) (named f) ts

-- trades added by rows that their names have
pub added-named : (f row row' : ℕ → ℕ) (ts : List Trade) → ((t : Trade) → t ∈ ts → (row t.buy ≡ row' (f t.buy)) × (row t.sell ≡ row' (f t.sell))) → (cells : List ℕ)
    → added_to row ts cells ≡ added_to row' (map (named f) ts) cells
unfolding added_to
added-named f row row' [] h cells = refl
added-named f row row' (t ∷ ts) h cells =
    let (b, s) = h t (Memᴰ.head refl) in
    rw (b, s) (added-named f row row' ts (λ u m. h u (Memᴰ.tail m)) (added_at (cell_of (row' (f t.buy)) (row' (f t.sell))) t.quantity cells))
