-- The lent list: buy number, sell number, quantity, price for each trade, from the front; the remainder keeps its contents.
use Rattle.std.specs.Prelude.{ℕ, suc, ◌+◌, ◌*◌, ◌≤◌, ◌≡◌, refl, List, [], ◌∷◌, ◌++◌, length, set, take, drop}
use Rattle.std.proofs.Common.{ap, ◌∙◌, arith, le-leb, length-append, length-drop, take_at, drop-drop}
use Rattle.std.proofs.lemmas.List.Edits.{sets-eq}
use Rattle.std.proofs.Math.Seq.{drop-append-add}
use Rattle.terms.specs.Bounds.{numbers_per_trade}
use Rattle.trades.specs.declared.{Trade.Trade}
use Rattle.trades.specs.Written.{quadruples, trades_read, trades_written, wrote}

pub trades-back : (price : ℕ) (ts : List Trade) (list : List ℕ) → trades_read (length ts) (quadruples price ts ++ list) ≡ ts
trades-back price [] list = refl
trades-back price (t ∷ ts) list = ap (λ (us : List Trade). t ∷ us) (trades-back price ts list)

-- four writes in a row
pub wrote-four : (list : List ℕ) (at a b c d : ℕ) → at + 4 ≤ length list → set (set (set (set list at a) (at + 1) b) (at + 2) c) (at + 3) d ≡ take at list ++ (a ∷ b ∷ c ∷ d ∷ []) ++ drop (at + 4) list
wrote-four list at a b c d h =
    let e1 : at + 1 ≡ suc at = omega arith in
    let e2 : at + 2 ≡ suc (suc at) = omega arith in
    let e3 : at + 3 ≡ suc (suc (suc at)) = omega arith in
    rw (e1, e2, e3) (sets-eq (a ∷ b ∷ c ∷ d ∷ []) list at h)

pub quadruples-length : (price : ℕ) (ts : List Trade) → length (quadruples price ts) ≡ numbers_per_trade * length ts
quadruples-length price [] = refl
quadruples-length price (t ∷ ts) = omega (arith, quadruples-length price ts)

quadruples-append : (price : ℕ) (ts us : List Trade) → quadruples price (ts ++ us) ≡ quadruples price ts ++ quadruples price us
quadruples-append price [] us = refl
quadruples-append price (t ∷ ts) us = ap (λ (l : List ℕ). t.buy ∷ t.sell ∷ t.quantity ∷ price ∷ l) (quadruples-append price ts us)

-- one more trade in a list that has room for it
pub written_next : (price : ℕ) (ts : List Trade) (t : Trade) (list : List ℕ) → numbers_per_trade * (length ts + 1) ≤ length list
    → wrote (length ts) (t.buy ∷ t.sell ∷ t.quantity ∷ price ∷ []) (trades_written price ts list) ≡ trades_written price (ts ++ (t ∷ [])) list
written_next price ts t list h =
    rw (le-leb (length ts * 4 + 4) (length (trades_written price ts list)) (omega (arith, long)), front, back, quadruples-append price ts (t ∷ []), more)
  where
    q : length (quadruples price ts) ≡ numbers_per_trade * length ts
    q = quadruples-length price ts

    long : length (trades_written price ts list) ≡ length list
    long = length-append (quadruples price ts) (drop (numbers_per_trade * length ts) list) ∙ rw (length-drop (numbers_per_trade * length ts) list) (omega (arith, q))

    front : take (length ts * 4) (trades_written price ts list) ≡ quadruples price ts
    front = take_at (quadruples price ts) (drop (numbers_per_trade * length ts) list) (length ts * 4) (omega (arith, q))

    back : drop (length ts * 4 + 4) (trades_written price ts list) ≡ drop (numbers_per_trade * length ts + 4) list
    back =
        let e : length ts * 4 + 4 ≡ length (quadruples price ts) + 4 = omega (arith, q) in
        rw e (drop-append-add (quadruples price ts) (drop (numbers_per_trade * length ts) list) 4 ∙ drop-drop 4 (numbers_per_trade * length ts) list)

    more : numbers_per_trade * length (ts ++ (t ∷ [])) ≡ numbers_per_trade * length ts + 4
    more = omega (arith, length-append ts (t ∷ []))
