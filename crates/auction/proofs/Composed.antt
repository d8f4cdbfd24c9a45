-- An auction as its functions compose it: what they find step by step is its trades and what they leave.
use Rattle.std.specs.Prelude.{ℕ, zero, suc, ◌+◌, ◌*◌, ◌≤◌, min, ◌≡◌, List, [], ◌∷◌, length}
use Rattle.std.proofs.Common.{arith}
use Rattle.queue.specs.RankNumbers.{along}
use Rattle.fills.specs.Shares.{lessened}
use Rattle.trades.specs.OverShares.{share_pairs, numbers_left, shares_left, paired_shares}
use Rattle.terms.specs.Bounds.{places}
use Rattle.trades.specs.declared.pairing.Filled.{Filled}
use Rattle.auction.specs.Trading.{shares_in, trades_in, left_in}

-- There are no more trades than shares.
few-pairs : (k : ℕ) (bn bq sn sq : List ℕ) → length (share_pairs k bn bq sn sq) ≤ k
unfolding share_pairs
few-pairs zero bn bq sn sq = omega arith
few-pairs (suc k) [] bq sn sq = omega arith
few-pairs (suc k) (b ∷ bn) [] sn sq = omega arith
few-pairs (suc k) (b ∷ bn) (x ∷ bq) [] sq = omega arith
few-pairs (suc k) (b ∷ bn) (x ∷ bq) (s ∷ sn) [] = omega arith
few-pairs (suc k) (b ∷ bn) (x ∷ bq) (s ∷ sn) (y ∷ sq) =
    omega (arith, few-pairs k (numbers_left (min x y) x b bn) (shares_left (min x y) x bq) (numbers_left (min x y) y s sn) (shares_left (min x y) y sq))

pub few-trades : (numbers buys bought sells sold : List ℕ) → length (paired_shares numbers buys bought sells sold) ≤ length bought + length sold
few-trades numbers buys bought sells sold = few-pairs (length bought + length sold) (along numbers buys) bought (along numbers sells) sold

-- .. of two queues of the book
pub few-filled : (numbers : List ℕ) (b s : Filled) → length b.ranks.now ≤ places → length s.ranks.now ≤ places → length (paired_shares numbers b.ranks.now b.shares.now s.ranks.now s.shares.now) ≤ 2 * places
few-filled numbers b s h k = omega (arith, few-trades numbers b.ranks.now b.shares.now s.ranks.now s.shares.now, b.covered, s.covered, h, k)

-- Of shares found, the trades and what they leave.
pub trades-composed : (quantity : ℕ) (numbers lefts buys sells bought sold : List ℕ) → bought ≡ shares_in quantity lefts buys → sold ≡ shares_in quantity lefts sells
    → paired_shares numbers buys bought sells sold ≡ trades_in quantity numbers lefts buys sells
unfolding trades_in
trades-composed quantity numbers lefts buys sells bought sold b s = rw (b, s)

pub left-composed : (quantity : ℕ) (lefts buys sells bought sold : List ℕ) → bought ≡ shares_in quantity lefts buys → sold ≡ shares_in quantity lefts sells
    → lessened sells sold (lessened buys bought lefts) ≡ left_in quantity lefts buys sells
unfolding left_in
left-composed quantity lefts buys sells bought sold b s = rw (b, s)
