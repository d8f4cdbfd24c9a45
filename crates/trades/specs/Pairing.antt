-- Pairing: 01 "Outcomes", "the trades pair the two queues from the front; each is the smaller of the two open quantities at the fronts".
use Rattle.std.specs.Prelude.{ℕ, zero, suc, ◌+◌, ◌-◌, min, Bool, true, cond, List, [], ◌∷◌, leb}
use Rattle.std.proofs.Math.ListN.{length}
use Rattle.fills.specs.Fill.{Fill, filled_by}
use Rattle.trades.specs.declared.Trade.{Trade}

-- what is left of the front fill, and of its queue, when q of it has been traded
abbrev pub rest : ℕ → Fill → Fill
rest q x = record { order = x.order; quantity = x.quantity - q }

abbrev pub served : ℕ → Fill → List Fill → List Fill
served q x xs = cond (leb x.quantity q) xs (rest q x ∷ xs)

-- at most k trades
abbrev pub pairs : ℕ → List Fill → List Fill → List Trade
pairs zero bs ss = []
pairs (suc k) [] ss = []
pairs (suc k) (b ∷ bs) [] = []
pairs (suc k) (b ∷ bs) (s ∷ ss) =
    let q = min b.quantity s.quantity in
    record { buy = b.order.number; sell = s.order.number; quantity = q } ∷ pairs k (served q b bs) (served q s ss)

-- all of them: there are fewer trades than fills
abbrev pub paired : List Fill → List Fill → List Trade
paired bs ss = pairs (length bs + length ss) bs ss

-- what the fills come to, and what those come to whose numbers pass the test
abbrev pub amount : List Fill → ℕ
amount xs = filled_by (λ o. true) xs

abbrev pub amount_of : (ℕ → Bool) → List Fill → ℕ
amount_of f xs = filled_by (λ o. f o.number) xs
