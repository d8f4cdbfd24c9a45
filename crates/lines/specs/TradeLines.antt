-- The lines of the trades in a lent list, written one by one.
use Rattle.std.specs.Prelude.{ℕ, zero, suc, ◌+◌, ◌*◌, ◌≤◌, ◌<◌, ◌≡◌, refl, List, [], ◌∷◌, ◌++◌, length, get_or, take, drop}
use Rattle.std.specs.Simd.{first_chunks}
use Rattle.std.proofs.lemmas.List.{get_or-take}
use Rattle.std.proofs.Common.{◌∙◌, ap, add-one, add-zero, arith, get_or-drop, drop-drop}
use Rattle.terms.specs.Bounds.{numbers_per_trade}
use Rattle.trades.specs.declared.{Trade.Trade}
use Rattle.trades.specs.Written.{trades_read}
use Rattle.lines.specs.Line.{trade_line}
use Rattle.lines.specs.Lengths.{trade_room, trades-room}
use Rattle.lists.specs.Put.{Wrote}
use Rattle.lines.specs.OneByOne.{WroteAll, all-next}

-- the trade at a place of a lent list
abbrev pub trade_at : ℕ → List ℕ → Trade
trade_at i list = record { buy = get_or list i 0; sell = get_or list (i + 1) 0; quantity = get_or list (i + 2) 0 }

read-few : (k : ℕ) (list : List ℕ) → length (trades_read k list) ≤ k
read-few zero list = omega arith
read-few (suc k) [] = omega arith
read-few (suc k) (b ∷ []) = omega arith
read-few (suc k) (b ∷ s ∷ []) = omega arith
read-few (suc k) (b ∷ s ∷ q ∷ []) = omega arith
read-few (suc k) (b ∷ s ∷ q ∷ p ∷ list) = omega (arith, read-few k list)

read_next : (k : ℕ) (list : List ℕ) → numbers_per_trade * (k + 1) ≤ length list → trades_read (suc k) list ≡ trades_read k list ++ (trade_at (k * numbers_per_trade) list ∷ [])
read_next k [] h = absurd (omega arith)
read_next k (b ∷ []) h = absurd (omega arith)
read_next k (b ∷ s ∷ []) h = absurd (omega arith)
read_next k (b ∷ s ∷ q ∷ []) h = absurd (omega arith)
read_next zero (b ∷ s ∷ q ∷ p ∷ list) h = refl
read_next (suc k) (b ∷ s ∷ q ∷ p ∷ list) h =
    rw (past 2, past 1, front) (ap (λ (ts : List Trade). record { buy = b; sell = s; quantity = q } ∷ ts) (read_next k list (omega arith)))
  where
    past : (n : ℕ) → suc k * 4 + n ≡ suc (suc (suc (suc (k * 4 + n))))
    past n = omega arith

    front : suc k * 4 ≡ suc (suc (suc (suc (k * 4))))
    front = omega arith

-- the first k trades of the list are written
abbrev pub WroteTrades : List ℕ → ℕ → List ℕ → List ℕ → ℕ → ℕ → Type 0
WroteTrades old at list out end k = WroteAll trade_line old at (trades_read k list) out end

pub trades-within : (old list out : List ℕ) (at end k : ℕ) → WroteTrades old at list out end k → end ≤ at + trade_room * k
trades-within old list out at end k s = omega (arith, s.1.0, trades-room (trades_read k list), read-few k list)

pub trades-next : (old list out new : List ℕ) (at end r k : ℕ) → at ≤ length old → numbers_per_trade * (k + 1) ≤ length list → length new ≡ length out
    → WroteTrades old at list out end k → Wrote out new end r (trade_line (trade_at (k * numbers_per_trade) list)) → WroteTrades old at list new r (k + 1)
trades-next old list out new at end r k room h l s w =
    rw (add-one k, read_next k list h) (all-next trade_line old out new at end r (trades_read k list) (trade_at (k * numbers_per_trade) list) room l s w)

-- the list as the code reads it, in chunks of a trade's numbers
abbrev pub trade_in : List ℕ → Trade
trade_in chunk = record { buy = get_or chunk 0 0; sell = get_or chunk 1 0; quantity = get_or chunk 2 0 }

chunk_at : (most i : ℕ) (list : List ℕ) → i < most → get_or (first_chunks numbers_per_trade most list) i [] ≡ take numbers_per_trade (drop (i * numbers_per_trade) list)
chunk_at zero i list h = absurd (omega arith)
chunk_at (suc most) zero list h = refl
chunk_at (suc most) (suc i) list h =
    let behind : numbers_per_trade + i * numbers_per_trade ≡ suc i * numbers_per_trade = omega arith in
    chunk_at most i (drop numbers_per_trade list) (omega arith)
    ∙ ap (take numbers_per_trade) (drop-drop (i * numbers_per_trade) numbers_per_trade list ∙ ap (λ (n : ℕ). drop n list) behind)

number_at : (from j : ℕ) (list : List ℕ) → j < numbers_per_trade → get_or (take numbers_per_trade (drop from list)) j 0 ≡ get_or list (from + j) 0
number_at from j list h = get_or-take numbers_per_trade (drop from list) j 0 h ∙ get_or-drop from list j 0

pub chunk-trade : (count most i : ℕ) (list : List ℕ) → i < count → i < most → trade_in (get_or (take count (first_chunks numbers_per_trade most list)) i []) ≡ trade_at (i * numbers_per_trade) list
chunk-trade count most i list h k =
    let from = i * numbers_per_trade in
    rw (get_or-take count (first_chunks numbers_per_trade most list) i [] h, chunk_at most i list k, number_at from 0 list (omega arith), number_at from 1 list (omega arith), number_at from 2 list (omega arith), add-zero) refl
