-- The lent list: buy number, sell number, quantity, price for each trade, from the front; the remainder keeps its contents.
use Rattle.std.specs.Prelude.{ℕ, zero, suc, ◌+◌, ◌*◌, cond, List, [], ◌∷◌, ◌++◌, leb, length, set, take, drop}
use Rattle.terms.specs.Bounds.{numbers_per_trade}
use Rattle.trades.specs.declared.{Trade.Trade}

abbrev pub quadruples : ℕ → List Trade → List ℕ
quadruples price [] = []
quadruples price (t ∷ ts) = t.buy ∷ t.sell ∷ t.quantity ∷ price ∷ quadruples price ts

abbrev pub trades_written : ℕ → List Trade → List ℕ → List ℕ
trades_written price ts list = quadruples price ts ++ drop (numbers_per_trade * length ts) list

-- the first k trades of a lent list, read back; fewer where the list ends before
abbrev pub trades_read : ℕ → List ℕ → List Trade
trades_read zero list = []
trades_read (suc k) [] = []
trades_read (suc k) (b ∷ []) = []
trades_read (suc k) (b ∷ s ∷ []) = []
trades_read (suc k) (b ∷ s ∷ q ∷ []) = []
trades_read (suc k) (b ∷ s ∷ q ∷ p ∷ list) = record { buy = b; sell = s; quantity = q } ∷ trades_read k list

-- the numbers of trade k, where the list has room for them
abbrev pub wrote : ℕ → List ℕ → List ℕ → List ℕ
wrote k numbers list =
    cond (leb (k * numbers_per_trade + numbers_per_trade) (length list)) (take (k * numbers_per_trade) list ++ numbers ++ drop (k * numbers_per_trade + numbers_per_trade) list) list
