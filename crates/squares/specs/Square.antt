-- The square (02 K5): a row for each buying member and a column for each selling one, members in the order of their first accepted entry.
use Rattle.std.specs.Prelude.{ℕ, zero, suc, ◌+◌, ◌*◌, ◌<◌, ◌≤◌, cond, ◌≢◌, ◌≡◌, refl, List, [], ◌∷◌, ◌++◌, eqb, length, get_or, set, take, drop}
use Rattle.std.proofs.Common.{sym, ◌∙◌, arith, eq-eqb, ne_eqb, length-set, length-append, length-drop, drop_of_length-le, length-take-le, drop-cons, get_or-take, get_or-drop}
use Rattle.std.proofs.lemmas.List.{set_at}
use Rattle.std.proofs.Math.Seq.{append_snoc}
use Rattle.lists.specs.Choice.{any}
use Rattle.lists.specs.Sums.{◌∈◌, sum}
use Rattle.terms.specs.Bounds.{places}
use Rattle.trades.specs.declared.{Trade.Trade}
use Rattle.trades.specs.Trades.{volume}

-- members that a square has room for
abbrev pub square_members : ℕ
square_members = 32

abbrev pub square_cells : ℕ
square_cells = square_members * square_members

-- the row of a member: where it stands among those entered, or behind the last of them
abbrev pub row_of : List ℕ → ℕ → ℕ
row_of [] m = 0
row_of (x ∷ xs) m = cond (eqb x m) 0 (suc (row_of xs m))

-- a member joins behind those entered, unless it is one of them
abbrev pub joined : List ℕ → ℕ → List ℕ
joined ms m = cond (any (λ x. eqb x m) ms) ms (ms ++ (m ∷ []))

-- the cell of two rows, the buying member's first
abbrev pub cell_of : ℕ → ℕ → ℕ
cell_of buyer seller = buyer * square_members + seller

-- the square of a list of cells: the first n rows, and all
abbrev pub row_at : List ℕ → ℕ → List ℕ
row_at cells n = take square_members (drop (n * square_members) cells)

unfoldable pub rows_to : ℕ → List ℕ → List (List ℕ)
rows_to zero cells = []
rows_to (suc n) cells = rows_to n cells ++ (row_at cells n ∷ [])

abbrev pub square_of : List ℕ → List (List ℕ)
square_of cells = rows_to square_members cells

-- all cells together
abbrev pub total : List ℕ → ℕ
total cells = sum (λ x. x) cells

-- a quantity added to a cell
abbrev pub added_at : ℕ → ℕ → List ℕ → List ℕ
added_at cell quantity cells = set cells cell (get_or cells cell 0 + quantity)

-- each trade's quantity added to the cell of its sides' rows
unfoldable pub added_to : (ℕ → ℕ) → List Trade → List ℕ → List ℕ
added_to row [] cells = cells
added_to row (t ∷ ts) cells = added_to row ts (added_at (cell_of (row t.buy) (row t.sell)) t.quantity cells)

-- a column of rows, each one of a square
abbrev pub Small : List ℕ → Type 0
Small rows = (p : ℕ) → get_or rows p 0 < square_members

-- trades whose sides are told by places
abbrev pub InBook : List Trade → Type 0
InBook ts = (t : Trade) → t ∈ ts → (t.buy < places) × (t.sell < places)

-- ---- laws
-- a quantity more in a cell is as much more in all
pub added-length : (cell quantity : ℕ) (cells : List ℕ) → length (added_at cell quantity cells) ≡ length cells
added-length cell quantity cells = length-set cells cell (get_or cells cell 0 + quantity)

pub added-total : (cell quantity : ℕ) (cells : List ℕ) → cell < length cells → total (added_at cell quantity cells) ≡ total cells + quantity
added-total cell quantity [] h = absurd (omega arith)
added-total zero quantity (x ∷ xs) h = omega arith
added-total (suc cell) quantity (x ∷ xs) h = omega (arith, added-total cell quantity xs (omega arith))

-- .. no more than that, be the cell one of them or not
added-most : (cell quantity : ℕ) (cells : List ℕ) → total (added_at cell quantity cells) ≤ total cells + quantity
added-most cell quantity [] = omega arith
added-most zero quantity (x ∷ xs) = omega arith
added-most (suc cell) quantity (x ∷ xs) = omega (arith, added-most cell quantity xs)

-- a cell is no more than all
pub cell-le-total : (cell : ℕ) (cells : List ℕ) → get_or cells cell 0 ≤ total cells
cell-le-total cell [] = omega arith
cell-le-total zero (x ∷ xs) = omega arith
cell-le-total (suc cell) (x ∷ xs) = omega (arith, cell-le-total cell xs)

-- ---- one trade after the other
-- a trade that is added leaves those behind it to be added
module _ (row : ℕ → ℕ) (t : Trade) (ts rest : List Trade) (front : ts ≡ t ∷ rest) (cells after : List ℕ)
    (is : after ≡ added_at (cell_of (row t.buy) (row t.sell)) t.quantity cells) where
  pub add-first : added_to row rest after ≡ added_to row ts cells
  unfolding added_to
  add-first = rw (is, front)

  pub add-first-length : length after ≡ length cells
  add-first-length = rw is (added-length (cell_of (row t.buy) (row t.sell)) t.quantity cells)

  pub add-first-total : cell_of (row t.buy) (row t.sell) < length cells → total after + volume rest ≡ total cells + volume ts
  add-first-total h = rw (is, front) (omega (arith, added-total (cell_of (row t.buy) (row t.sell)) t.quantity cells h))

pub added_none : (row : ℕ → ℕ) {ts : List Trade} → ts ≡ [] → (cells : List ℕ) → added_to row ts cells ≡ cells
unfolding added_to
added_none row e cells = rw e

pub all-added-length : (row : ℕ → ℕ) (ts : List Trade) (cells : List ℕ) → length (added_to row ts cells) ≡ length cells
unfolding added_to
all-added-length row [] cells = refl
all-added-length row (t ∷ ts) cells =
    let cell = cell_of (row t.buy) (row t.sell) in
    all-added-length row ts (added_at cell t.quantity cells) ∙ added-length cell t.quantity cells

pub all-added-most : (row : ℕ → ℕ) (ts : List Trade) (cells : List ℕ) → total (added_to row ts cells) ≤ total cells + volume ts
unfolding added_to
all-added-most row [] cells = omega arith
all-added-most row (t ∷ ts) cells =
    let cell = cell_of (row t.buy) (row t.sell) in
    omega (arith, all-added-most row ts (added_at cell t.quantity cells), added-most cell t.quantity cells)

-- ---- finding a row
pub row-found : (xs : List ℕ) (m d : ℕ) (i : ℕ) → i < length xs → get_or xs i d ≡ m → row_of (drop i xs) m ≡ 0
row-found [] m d i h e = absurd (omega arith)
row-found (x ∷ xs) m d zero h e = rw (eq-eqb x m e)
row-found (x ∷ xs) m d (suc i) h e = row-found xs m d i (omega arith) e

pub row-further : (xs : List ℕ) (m d : ℕ) (i : ℕ) → i < length xs → get_or xs i d ≢ m → row_of (drop i xs) m ≡ suc (row_of (drop (suc i) xs) m)
row-further [] m d i h e = absurd (omega arith)
row-further (x ∷ xs) m d zero h e = rw (ne_eqb x m e)
row-further (x ∷ xs) m d (suc i) h e = row-further xs m d i (omega arith) e

-- ---- row by row
pub rows-length : (n : ℕ) (cells : List ℕ) → length (rows_to n cells) ≡ n
unfolding rows_to
rows-length zero cells = refl
rows-length (suc n) cells = omega (arith, length-append (rows_to n cells) (row_at cells n ∷ []), rows-length n cells)

pub rows_none : (cells : List ℕ) → rows_to 0 cells ≡ []
unfolding rows_to
rows_none cells = refl

pub row_written : (cells : List ℕ) (n : ℕ) (old : List (List ℕ)) → n < length old → set (rows_to n cells ++ drop n old) n (row_at cells n) ≡ rows_to (n + 1) cells ++ drop (n + 1) old
unfolding rows_to
row_written cells n old h =
    let e : n + 1 ≡ suc n = omega arith in
    rw (drop-cons old n [] h, e)
    (set_at (rows_to n cells) (get_or old n []) (drop (suc n) old) (row_at cells n) n (rows-length n cells)
    ∙ sym (append_snoc (rows_to n cells) (row_at cells n) (drop (suc n) old)))

-- ---- cell by cell
pub row-length : (cells : List ℕ) → length cells ≡ square_cells → (n : ℕ) → n < square_members → length (row_at cells n) ≡ square_members
row-length cells long n h = length-take-le square_members (drop (n * square_members) cells) (omega (arith, length-drop (n * square_members) cells))

pub cell-in-row : (cells : List ℕ) (n column : ℕ) → column < square_members → get_or (row_at cells n) column 0 ≡ get_or cells (cell_of n column) 0
cell-in-row cells n column h = get_or-take square_members (drop (n * square_members) cells) column 0 h ∙ get_or-drop (n * square_members) cells column 0

-- ---- summed one by one
pub total-next : (cells : List ℕ) (i : ℕ) → i < length cells → total (drop i cells) ≡ get_or cells i 0 + total (drop (i + 1) cells)
total-next cells i h =
    let e : i + 1 ≡ suc i = omega arith in
    rw (drop-cons cells i 0 h, e)

pub total-all : (cells : List ℕ) (i : ℕ) → length cells ≤ i → total (drop i cells) ≡ 0
total-all cells i h = rw (drop_of_length-le cells h)
