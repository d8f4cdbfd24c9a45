-- A cell after trades: what it had, and the quantities of those whose sides have its two rows.
use Rattle.std.specs.Prelude.{ℕ, zero, suc, ◌+◌, ◌<◌, Bool, true, false, ◌&&◌, ◌≢◌, ◌≡◌, refl, eqb, ltb, length, get_or}
use Rattle.std.proofs.Common.{⊎_elim, sym, ◌∙◌, eqb-true, get_or-set_same, get_or-set_other}
use mathlib.Core.List.Memᴰ
use mathlib.Core.List.{List, [], ◌∷◌}
use native.Mathlib.Omega.{arith}
use Rattle.std.proofs.lemmas.Bool.{eqb-false}
use Rattle.std.proofs.Math.ListN.{get_or-append}
use Rattle.std.proofs.lemmas.List.{get_or_at}
use Rattle.lists.specs.Tests.{tests, decided}
use Rattle.lists.specs.Sums.{◌∈◌, counted, sum}
use Rattle.trades.specs.declared.{Trade.Trade}
use Rattle.trades.specs.Trades.{volume}
use Rattle.squares.specs.Square.{square_members, square_cells, cell_of, row_at, rows_to, square_of, total, added_at, added_to, added-length, added-total, rows-length, cell-in-row}

-- two rows of the square have a cell, and no other two have it
pub cell_below : (i j : ℕ) → i < square_members → j < square_members → cell_of i j < square_cells
cell_below i j h k = omega arith

cell-one : (i j b s : ℕ) → j < square_members → s < square_members → cell_of b s ≡ cell_of i j → (b ≡ i) × (s ≡ j)
cell-one i j b s h k e = (omega arith, omega arith)

-- a quantity added to the cell of two rows, seen from the cell of two rows
module _ (i j b s : ℕ) (hi : i < square_members) (hj : j < square_members) (hs : s < square_members) (quantity : ℕ) (cells : List ℕ) (long : length cells ≡ square_cells) where
  added-cell : get_or (added_at (cell_of b s) quantity cells) (cell_of i j) 0 ≡ get_or cells (cell_of i j) 0 + counted (eqb b i && eqb s j) quantity
  added-cell = go (eqb b i) refl (eqb s j) refl
    where
      more : ℕ
      more = get_or cells (cell_of b s) 0 + quantity

      elsewhere : cell_of i j ≢ cell_of b s → get_or (added_at (cell_of b s) quantity cells) (cell_of i j) 0 ≡ get_or cells (cell_of i j) 0 + 0
      elsewhere h = get_or-set_other cells (cell_of b s) (cell_of i j) more 0 h ∙ omega arith

      go : (t : Bool) → eqb b i ≡ t → (u : Bool) → eqb s j ≡ u → get_or (added_at (cell_of b s) quantity cells) (cell_of i j) 0 ≡ get_or cells (cell_of i j) 0 + counted (t && u) quantity
      go true e true f =
          let buys : b ≡ i = eqb-true b i e in
          let sells : s ≡ j = eqb-true s j f in
          rw (buys, sells) (get_or-set_same cells (cell_of i j) (get_or cells (cell_of i j) 0 + quantity) 0 (omega (arith, cell_below i j hi hj)))
      go true e false f = elsewhere (λ same. eqb-false s j f (cell-one i j b s hj hs (sym same)).1)
      go false e u f = elsewhere (λ same. eqb-false b i e (cell-one i j b s hj hs (sym same)).0)

-- trades whose sides have rows of the square
abbrev pub InSquare : (ℕ → ℕ) → List Trade → Type 0
InSquare row ts = (t : Trade) → t ∈ ts → (row t.buy < square_members) × (row t.sell < square_members)

module _ (row : ℕ → ℕ) where
  -- what the trades of two rows move
  abbrev pub between : ℕ → ℕ → List Trade → ℕ
  between i j ts = sum (λ t. counted (eqb (row t.buy) i && eqb (row t.sell) j) t.quantity) ts

  pub cell-after : (i j : ℕ) → i < square_members → j < square_members → (ts : List Trade) → InSquare row ts → (cells : List ℕ) → length cells ≡ square_cells
      → get_or (added_to row ts cells) (cell_of i j) 0 ≡ get_or cells (cell_of i j) 0 + between i j ts
  unfolding added_to
  cell-after i j hi hj [] inside cells long = omega arith
  cell-after i j hi hj (t ∷ ts) inside cells long =
      let cell = cell_of (row t.buy) (row t.sell) in
      let later = cell-after i j hi hj ts (λ u m. inside u (Memᴰ.tail m)) (added_at cell t.quantity cells) (added-length cell t.quantity cells ∙ long) in
      let here = added-cell i j (row t.buy) (row t.sell) hi hj (inside t (Memᴰ.head refl)).1 t.quantity cells long in
      later ∙ omega (arith, here)

  -- all cells together have as much more as the trades move
  pub total-after : (ts : List Trade) → InSquare row ts → (cells : List ℕ) → length cells ≡ square_cells → total (added_to row ts cells) ≡ total cells + volume ts
  unfolding added_to
  total-after [] inside cells long = omega arith
  total-after (t ∷ ts) inside cells long =
      let cell = cell_of (row t.buy) (row t.sell) in
      let (b, s) = inside t (Memᴰ.head refl) in
      let later = total-after ts (λ u m. inside u (Memᴰ.tail m)) (added_at cell t.quantity cells) (added-length cell t.quantity cells ∙ long) in
      later ∙ omega (arith, added-total cell t.quantity cells (omega (arith, cell_below (row t.buy) (row t.sell) b s)))

-- ---- the square as it is handed out
row-of-rows : (n i : ℕ) (cells : List ℕ) → i < n → get_or (rows_to n cells) i [] ≡ row_at cells i
unfolding rows_to
row-of-rows zero i cells h = absurd (omega arith)
row-of-rows (suc n) i cells h =
    ⊎_elim
    (λ k. get_or-append (rows_to n cells) (row_at cells n ∷ []) [] i (omega (tests, rows-length n cells)) ∙ row-of-rows n i cells (omega tests))
    (λ k. let last : i ≡ n = omega tests in rw last (get_or_at (rows_to n cells) (row_at cells n) [] [] n (rows-length n cells)))
    (decided (ltb i n))

pub cell-handed-out : (cells : List ℕ) (i j : ℕ) → i < square_members → j < square_members → get_or (get_or (square_of cells) i []) j 0 ≡ get_or cells (cell_of i j) 0
cell-handed-out cells i j h k = rw (row-of-rows square_members i cells h) (cell-in-row cells i j k)
