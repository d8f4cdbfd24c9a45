use Rattle.std.proofs.Common.{ℕ, zero, suc, ◌*◌, ◌/◌, ◌<◌, ◌≤◌, ◌≡◌, refl, sym, ap, ◌∙◌, List, [], ◌∷◌, map, length, get_or, take, drop, add-one, arith, length-take-le}
use mathlib.Core.List.Memᴰ
use Rattle.std.specs.Simd.{first_chunks}
use Rattle.lists.specs.Sums.{◌∈◌}
use Rattle.terms.specs.Bounds.{places}
use Rattle.trades.specs.declared.{Trade.Trade}
use Rattle.trades.specs.Trades.{volume}
use Rattle.trades.specs.Written.{trades_read}
use Rattle.squares.specs.Square.{added_to, cell-le-total, add-first, add-first-length, add-first-total, added_none}
use Rattle.squares.proofs.add_trades.Invariants.{of_four}
use Rattle.squares.proofs.add_trades.Goals as goal
use Rattle.squares.proofs.add_trades.Goals.{In-loop-buy}

-- the list's trades, four numbers each
of-list : (k : ℕ) (list : List ℕ) → 4 * k ≤ length list → map of_four (first_chunks 4 k (take (k * 4) list)) ≡ trades_read k list
of-list zero list h = refl
of-list (suc k) [] h = absurd (omega arith)
of-list (suc k) (b ∷ []) h = absurd (omega arith)
of-list (suc k) (b ∷ s ∷ []) h = absurd (omega arith)
of-list (suc k) (b ∷ s ∷ q ∷ []) h = absurd (omega arith)
of-list (suc k) (b ∷ s ∷ q ∷ p ∷ list) h =
    let e : suc k * 4 ≡ suc (suc (suc (suc (k * 4)))) = omega arith in
    rw e (ap (λ (ts : List Trade). record { buy = b; sell = s; quantity = q } ∷ ts) (of-list k list (omega arith)))

all-read : {chunks : List (List ℕ)} (k : ℕ) (list : List ℕ) → 4 * k ≤ length list → chunks ≡ first_chunks 4 (length (take (k * 4) list) / 4) (take (k * 4) list) → map of_four chunks ≡ trades_read k list
all-read k list h e =
    let n : length (take (k * 4) list) / 4 ≡ k = omega (arith, length-take-le (k * 4) list (omega arith)) in
    rw (e, n) (of-list k list h)

-- the trade at hand, and those behind it
at-hand : (chunks : List (List ℕ)) (i : ℕ) → i < length chunks → drop i (map of_four chunks) ≡ of_four (get_or chunks i []) ∷ drop (suc i) (map of_four chunks)
at-hand [] i h = absurd (omega arith)
at-hand (x ∷ xs) zero h = refl
at-hand (x ∷ xs) (suc i) h = at-hand xs i (omega arith)

listed : (chunks : List (List ℕ)) (i : ℕ) → i < length chunks → of_four (get_or chunks i []) ∈ map of_four chunks
listed [] i h = absurd (omega arith)
listed (x ∷ xs) zero h = Memᴰ.head refl
listed (x ∷ xs) (suc i) h = Memᴰ.tail (listed xs i (omega arith))

all-passed : (chunks : List (List ℕ)) (i : ℕ) → length chunks ≤ i → drop i (map of_four chunks) ≡ []
all-passed [] zero h = refl
all-passed [] (suc i) h = refl
all-passed (x ∷ xs) zero h = absurd (omega arith)
all-passed (x ∷ xs) (suc i) h = all-passed xs i (omega arith)

abbrev next : In-loop-buy → Trade
next c = of_four (get_or c.as_chunks.result.0.now c.loop-buy.buy-index [])

in-book : (c : In-loop-buy) → ((next c).buy < places) × ((next c).sell < places)
in-book c =
    let is = all-read c.args.count c.args.list.now c.requires.1 c.as_chunks.ensures.front in
    c.requires.3 (next c) (rw is at (listed c.as_chunks.result.0.now c.loop-buy.buy-index c.loop-buy-test.true))

pub bounds-rows-buy : goal.bounds-rows-buy
bounds-rows-buy c = (in-book (goal.at.bounds-rows-buy c).In-loop-buy).0

pub bounds-rows-sell : goal.bounds-rows-sell
bounds-rows-sell c = (in-book (goal.at.bounds-rows-sell c).In-loop-buy).1

pub add_at-requires : goal.add_at-requires
add_at-requires c =
    let chunks = c.as_chunks.result.0.now in
    let is = ap volume (all-read c.args.count c.args.list.now c.requires.1 c.as_chunks.ensures.front) in
    let all = rw (at-hand chunks c.loop-buy.buy-index c.loop-buy-test.true) at c.loop-buy.invariant.1 in
    (c.cell_of-cell.ensures.1, omega (arith, all, is, cell-le-total c.cell_of-cell.result c.loop-buy.totals, c.requires.4))

pub loop-buy-preserved : goal.loop-buy-preserved
loop-buy-preserved c =
    let i = (goal.at.loop-buy-preserved c).In-loop-buy in
    let l = c.loop-buy in
    let cell = c.cell_of-cell in
    let is = rw cell.ensures.0 at c.add_at.ensures in
    let ts = map of_four c.as_chunks.result.0.now in
    let rest = drop (suc l.buy-index) ts in
    let front = at-hand c.as_chunks.result.0.now l.buy-index c.loop-buy-test.true in
    let row : ℕ → ℕ = λ p. get_or c.args.rows.now p 0 in
    rw (add-one l.buy-index) (
      add-first-length row (next i) (drop l.buy-index ts) rest front l.totals c.add_at.new.totals is ∙ l.invariant.0,
      add-first-total row (next i) (drop l.buy-index ts) rest front l.totals c.add_at.new.totals is (omega (arith, cell.ensures)) ∙ l.invariant.1,
      add-first row (next i) (drop l.buy-index ts) rest front l.totals c.add_at.new.totals is ∙ l.invariant.2,
    )

pub returns : goal.returns
returns c = let a = c.args in
    let row : ℕ → ℕ = λ p. get_or a.rows.now p 0 in
    sym (added_none row (all-passed c.as_chunks.result.0.now c.loop-buy.buy-index c.loop-buy-test.false) c.loop-buy.totals) ∙ c.loop-buy.invariant.2
    ∙ ap (λ (ts : List Trade). added_to row ts a.totals.now) (all-read a.count a.list.now c.requires.1 c.as_chunks.ensures.front)
