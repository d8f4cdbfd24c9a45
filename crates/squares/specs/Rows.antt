-- Rows of members: a member's row is below the count of those entered exactly where it is one of them.
use Rattle.std.specs.Prelude.{ℕ, suc, ◌<◌, ◌≤◌, Bool, true, false, cond, not, ◌&&◌, ◌||◌, ◌≡◌, refl, List, [], ◌∷◌, ◌++◌, eqb, leb, length, get_or}
use Rattle.std.proofs.Common.{true≢false, sym, ap, arith, eqb-true, eq-eqb}
use Rattle.lists.specs.Tests.{tests, same_test}
use Rattle.lists.specs.Choice.{any}
use Rattle.squares.specs.Square.{square_members, row_of, joined}

-- one of those entered
abbrev is_in : List ℕ → ℕ → Bool
is_in xs m = any (λ x. eqb x m) xs

pub row-at-most : (xs : List ℕ) (m : ℕ) → row_of xs m ≤ length xs
row-at-most [] m = omega arith
row-at-most (x ∷ xs) m = go (eqb x m) (row-at-most xs m)
  where
    go : (t : Bool) → row_of xs m ≤ length xs → cond t 0 (suc (row_of xs m)) ≤ suc (length xs)
    go true h = omega arith
    go false h = omega arith

row_in : (xs : List ℕ) (m : ℕ) → is_in xs m ≡ true → row_of xs m < length xs
row_in [] m e = absurd (true≢false (sym e))
row_in (x ∷ xs) m e = go (eqb x m) (row_in xs m) e
  where
    go : (t : Bool) → (is_in xs m ≡ true → row_of xs m < length xs) → (t || is_in xs m) ≡ true → cond t 0 (suc (row_of xs m)) < suc (length xs)
    go true h e = omega arith
    go false h e = omega (arith, h e)

row_out : (xs : List ℕ) (m : ℕ) → is_in xs m ≡ false → row_of xs m ≡ length xs
row_out [] m e = refl
row_out (x ∷ xs) m e = go (eqb x m) (row_out xs m) e
  where
    go : (t : Bool) → (is_in xs m ≡ false → row_of xs m ≡ length xs) → (t || is_in xs m) ≡ false → cond t 0 (suc (row_of xs m)) ≡ suc (length xs)
    go true h e = absurd (true≢false e)
    go false h e = ap suc (h e)

-- it stays where it is if it has a row, and else comes behind the last
pub joined-again : (xs : List ℕ) (m : ℕ) → row_of xs m < length xs → joined xs m ≡ xs
joined-again xs m h = go (is_in xs m) refl
  where
    go : (t : Bool) → is_in xs m ≡ t → cond t xs (xs ++ (m ∷ [])) ≡ xs
    go true e = refl
    go false e = absurd (omega (arith, row_out xs m e))

pub joined-first : (xs : List ℕ) (m : ℕ) → row_of xs m ≡ length xs → joined xs m ≡ xs ++ (m ∷ [])
joined-first xs m h = go (is_in xs m) refl
  where
    go : (t : Bool) → is_in xs m ≡ t → cond t xs (xs ++ (m ∷ [])) ≡ xs ++ (m ∷ [])
    go true e = absurd (omega (arith, row_in xs m e))
    go false e = refl

-- a square is full for a member where its row is none of the square's
pub beyond-by-row : (xs : List ℕ) (m : ℕ) → length xs ≤ square_members → leb square_members (row_of xs m) ≡ (not (any (λ x. eqb x m) xs) && leb square_members (length xs))
beyond-by-row xs m few = go (is_in xs m) refl
  where
    go : (t : Bool) → is_in xs m ≡ t → leb square_members (row_of xs m) ≡ (not t && leb square_members (length xs))
    go true e = same_test (leb square_members (row_of xs m)) false (λ h. omega (tests, row_in xs m e)) (λ h. absurd h)
    go false e = ap (leb square_members) (row_out xs m e)

-- where a member's row is of those entered, it stands there
pub row-holds : (xs : List ℕ) (m : ℕ) → row_of xs m < length xs → get_or xs (row_of xs m) 0 ≡ m
row-holds [] m h = absurd (omega arith)
row-holds (x ∷ xs) m h = go (eqb x m) refl (row-holds xs m) h
  where
    go : (t : Bool) → eqb x m ≡ t → (row_of xs m < length xs → get_or xs (row_of xs m) 0 ≡ m) → cond t 0 (suc (row_of xs m)) < suc (length xs) → get_or (x ∷ xs) (cond t 0 (suc (row_of xs m))) 0 ≡ m
    go true e below h = eqb-true x m e
    go false e below h = below (omega arith)

-- .. and members behind don't change it
pub row_before : (xs ys : List ℕ) (m : ℕ) → row_of xs m < length xs → row_of (xs ++ ys) m ≡ row_of xs m
row_before [] ys m h = absurd (omega arith)
row_before (x ∷ xs) ys m h = go (eqb x m) (row_before xs ys m) h
  where
    go : (t : Bool) → (row_of xs m < length xs → row_of (xs ++ ys) m ≡ row_of xs m) → cond t 0 (suc (row_of xs m)) < suc (length xs) → cond t 0 (suc (row_of (xs ++ ys) m)) ≡ cond t 0 (suc (row_of xs m))
    go true below h = refl
    go false below h = ap suc (below (omega arith))

-- a member that was none of them is entered behind the last
pub row-behind : (xs : List ℕ) (m : ℕ) → row_of xs m ≡ length xs → row_of (xs ++ (m ∷ [])) m ≡ length xs
row-behind [] m h = rw (eq-eqb m m refl)
row-behind (x ∷ xs) m h = go (eqb x m) (row-behind xs m) h
  where
    go : (t : Bool) → (row_of xs m ≡ length xs → row_of (xs ++ (m ∷ [])) m ≡ length xs) → cond t 0 (suc (row_of xs m)) ≡ suc (length xs) → cond t 0 (suc (row_of (xs ++ (m ∷ [])) m)) ≡ suc (length xs)
    go true below h = absurd (omega arith)
    go false below h = ap suc (below (omega arith))
