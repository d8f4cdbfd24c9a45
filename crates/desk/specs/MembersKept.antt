-- The members once one of them has entered: it has a row, and each one before has the row that it had.
use Rattle.std.specs.Prelude.{ℕ, suc, ◌+◌, ◌≤◌, ◌<◌, Bool, true, false, cond, ◌≢◌, ◌≡◌, refl, List, [], ◌∷◌, ◌++◌, eqb, length, get_or, set, take}
use Rattle.std.proofs.Common.{⊎_elim, sym, ◌∙◌, arith, eqb-true, length-append, length-take-le, take-suc-set, get_or-take, get_or-set_same, get_or-set_other}
use Rattle.std.proofs.lemmas.Bool.{eqb-false}
use Rattle.std.proofs.lemmas.List.{set-get_or}
use Rattle.book.specs.Sound.{same_or_not}
use Rattle.squares.specs.Square.{square_members, row_of, joined}
use Rattle.squares.specs.Rows.{joined-again, joined-first, row-at-most, row-holds, row_before, row-behind}

-- no member stands twice among the first so many
abbrev pub InOrder : List ℕ → ℕ → Type 0
InOrder members count = (i : ℕ) → i < count → row_of (take count members) (get_or members i 0) ≡ i

pub record Entered (before : List ℕ) (members : List ℕ) (count m row : ℕ) : Type 0 where
  pub few : count ≤ square_members
  pub in_order : InOrder members count
  pub here : row ≡ row_of (take count members) m
  pub below : row < length (take count members)
  pub joins : take count members ≡ joined before m
  pub kept : (x : ℕ) → row_of before x < length before → (row_of (take count members) x ≡ row_of before x) × (row_of before x < length (take count members))

module _ (members : List ℕ) (long : length members ≡ square_members) (count : ℕ) (few : count ≤ square_members) (in_order : InOrder members count)
    (m row : ℕ) (is : row ≡ row_of (take count members) m) (room : row < square_members) where
  abbrev before : List ℕ
  before = take count members

  as_many : length before ≡ count
  as_many = length-take-le count members (omega arith)

  -- it is one of them: nothing changes
  there : row < count → set members row m ≡ members
  there h =
      let found : get_or members row 0 ≡ m = sym (get_or-take count members row 0 h) ∙ rw is (row-holds before m (omega (arith, as_many))) in
      rw (← found) (set-get_or members row 0)

  -- it is not: it stands behind them
  behind : row ≡ count → take (row + 1) (set members row m) ≡ before ++ (m ∷ [])
  behind e = let next : row + 1 ≡ suc row = omega arith in rw next (take-suc-set members row m (omega arith) ∙ rw e)

  behind-ordered : row ≡ count → (i : ℕ) → i < row + 1 → row_of (before ++ (m ∷ [])) (get_or (set members row m) i 0) ≡ i
  behind-ordered e i h =
      ⊎_elim (λ same. rw (same, get_or-set_same members row m 0 (omega arith)) (omega (arith, as_many, row-behind before m (omega (arith, as_many)))))
      (λ n. earlier n (in_order i (omega arith)))
      (same_or_not i row)
    where
      earlier : i ≢ row → row_of before (get_or members i 0) ≡ i → row_of (before ++ (m ∷ [])) (get_or (set members row m) i 0) ≡ i
      earlier n stood = rw (get_or-set_other members row i m 0 n) (row_before before (m ∷ []) (get_or members i 0) (omega (arith, as_many)) ∙ stood)

  pub members-entered : Entered before (set members row m) (cond (eqb row count) (row + 1) count) m row
  members-entered = go (eqb row count) refl
    where
      go : (t : Bool) → eqb row count ≡ t → Entered before (set members row m) (cond t (row + 1) count) m row
      go false e =
          let apart = eqb-false row count e in
          let h : row < count = omega (arith, row-at-most before m, as_many) in
          rw (there h) (record { few = few; in_order = in_order; here = is; below = omega (arith, as_many); joins = sym (joined-again before m (omega (arith, as_many))); kept = λ x k. (refl, k) })
      go true e =
          let last : row ≡ count = eqb-true row count e in
          let grown = behind last in
          record {
            few = omega arith;
            in_order = λ i h. rw grown (behind-ordered last i h);
            here = rw grown (omega (arith, as_many, row-behind before m (omega (arith, as_many))));
            below = rw grown (omega (arith, as_many, length-append before (m ∷ [])));
            joins = grown ∙ sym (joined-first before m (omega (arith, as_many)));
            kept = λ x k. rw grown (row_before before (m ∷ []) x k, omega (arith, length-append before (m ∷ [])));
          }
