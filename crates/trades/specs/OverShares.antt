-- Pairing over shares: the same trades as `paired`, from the columns that the code has.
use Rattle.std.specs.Prelude.{ℕ, zero, suc, ◌+◌, ◌-◌, min, cond, List, [], ◌∷◌, map, eqb, leb, length, get_or}
use Rattle.queue.specs.RankNumbers.{along}
use Rattle.fills.specs.Fill.{Fill}
use Rattle.trades.specs.declared.{Trade.Trade, pairing.Front.Front}

-- the front after q of it is traded: the next share where nothing is left
abbrev pub advanced_to : List ℕ → ℕ → Front → Front
advanced_to shares q f = cond (eqb q f.left) (record { at = f.at + 1; left = get_or shares (f.at + 1) 0 }) (record { at = f.at; left = f.left - q })

-- what is left of a queue's shares when q of its first has been traded, and of its numbers
abbrev pub shares_left : ℕ → ℕ → List ℕ → List ℕ
shares_left q x xs = cond (leb x q) xs ((x - q) ∷ xs)

abbrev pub numbers_left : ℕ → ℕ → ℕ → List ℕ → List ℕ
numbers_left q x n ns = cond (leb x q) ns (n ∷ ns)

-- at most k trades of two queues, given by the numbers and the shares of each
unfoldable pub share_pairs : ℕ → List ℕ → List ℕ → List ℕ → List ℕ → List Trade
share_pairs zero bn bq sn sq = []
share_pairs (suc k) [] bq sn sq = []
share_pairs (suc k) (b ∷ bn) [] sn sq = []
share_pairs (suc k) (b ∷ bn) (x ∷ bq) [] sq = []
share_pairs (suc k) (b ∷ bn) (x ∷ bq) (s ∷ sn) [] = []
share_pairs (suc k) (b ∷ bn) (x ∷ bq) (s ∷ sn) (y ∷ sq) =
    record { buy = b; sell = s; quantity = min x y }
    ∷ share_pairs k (numbers_left (min x y) x b bn) (shares_left (min x y) x bq) (numbers_left (min x y) y s sn) (shares_left (min x y) y sq)

-- all of them: there are fewer trades than shares; numbers are looked up by ranks
abbrev pub paired_shares : List ℕ → List ℕ → List ℕ → List ℕ → List ℕ → List Trade
paired_shares numbers buys bought sells sold = share_pairs (length bought + length sold) (along numbers buys) bought (along numbers sells) sold

-- Of fills, given by their orders' numbers and their quantities, the trades are those of `paired`; numbers past the last fill are nothing to them.
abbrev pub numbers_in : List Fill → List ℕ
numbers_in xs = map (λ x. x.order.number) xs

abbrev pub shares_in : List Fill → List ℕ
shares_in xs = map (λ x. x.quantity) xs
