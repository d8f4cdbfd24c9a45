-- Groups: places that are looked at together, and where the place sought is then.
use Prim.Native.Nat.{ℕ, zero, suc, ◌+◌, ◌-◌, ◌≤◌, ◌<◌}
use Rattle.std.specs.Prelude.{Bool, ◌||◌, ◌≡◌, List, eqb, ltb, length, get_or, take, drop}
use Rattle.std.specs.List.{fold, slice_range}
use Rattle.std.proofs.Math.Seq.{drop-cons}
use Rattle.std.proofs.Math.Bool.{true, false, or_assoc, or-false, and-false}
use Rattle.std.proofs.Math.Path.{refl, sym}
use Rattle.std.proofs.Math.Logic.{⊎_elim}
use Rattle.std.proofs.Common.{◌∙◌, add-zero, add-suc, zero-add}
use Rattle.std.proofs.Math.Nat.{suc-add}
use Rattle.std.proofs.Math.Numerals.{towards_numerals}
use native.Mathlib.Omega.{arith}
use Rattle.lists.specs.Tests.{tests, decided, neither}
use Rattle.terms.specs.Bounds.{places}
use Rattle.book.specs.Resting.{place_in, first_or, first_of, first-hit}

abbrev pub has_at : List ℕ → ℕ → ℕ → Bool
has_at numbers number place = eqb (get_or numbers place 0) number

-- whether one of n places of a column from one on holds x
unfoldable pub has_in : {A : Type 0} → (A → A → Bool) → A → List A → A → ℕ → ℕ → Bool
has_in same empty column x place zero = false
has_in same empty column x place (suc n) = same (get_or column place empty) x || has_in same empty column x (suc place) n

-- .. has this number
abbrev pub has_number : List ℕ → ℕ → ℕ → ℕ → Bool
has_number numbers number place n = has_in eqb 0 numbers number place n

-- .. told together, after some that are told
module _ {A : Type 0} (same : A → A → Bool) (empty : A) (column : List A) (x : A) where
  told-from : (b : Bool) (n place : ℕ) → place + n ≤ length column → fold (λ found y. found || same y x) b (take n (drop place column)) ≡ (b || has_in same empty column x place n)
  unfolding has_in
  told-from b zero place h = sym (or-false b)
  told-from b (suc n) place h =
      let within : place < length column = omega arith in
      rw (drop-cons column place empty within) (told-from (b || same (get_or column place empty) x) n (suc place) (omega arith) ∙ or_assoc b _ _)

  pub told-together : (n place : ℕ) → place + n ≤ length column → fold (λ found y. found || same y x) false (slice_range column place (place + n)) ≡ has_in same empty column x place n
  told-together n place h =
      let many : place + n - place ≡ n = omega arith in
      rw many (told-from false n place h)

-- .. of eight, one after the other
pub has-number-eight : (numbers : List ℕ) (number place : ℕ)
    → has_at numbers number place || has_at numbers number (place + 1) || has_at numbers number (place + 2) || has_at numbers number (place + 3)
    || has_at numbers number (place + 4) || has_at numbers number (place + 5) || has_at numbers number (place + 6) || has_at numbers number (place + 7)
    ≡ has_number numbers number place 8
unfolding has_in
has-number-eight numbers number place = simp (or_assoc, or-false, towards_numerals)

-- none of n places has the number
pub none-has : (numbers : List ℕ) (number n place p : ℕ) → false ≡ has_number numbers number place n → place ≤ p → p < place + n → has_at numbers number p ≡ false
unfolding has_in
none-has numbers number zero place p h j k = absurd (omega arith)
none-has numbers number (suc n) place p h j k =
    let (here, later) = neither (has_at numbers number place) (has_number numbers number (suc place) n) (sym h) in
    ⊎_elim
    (λ l. none-has numbers number n (suc place) p (sym later) (omega tests) (omega arith))
    (λ l. let same : place ≡ p = omega (tests, j) in rw same at here)
    (decided (ltb place p))

-- .. none of them is sought
pub place-in-none : (taken numbers members : List ℕ) (number member n place : ℕ) → has_number numbers number place n ≡ false → place + n ≤ place_in taken numbers members number member place n
unfolding first_of has_in
place-in-none taken numbers members number member zero place h = omega arith
place-in-none taken numbers members number member (suc n) place h =
    let (here, later) = neither (has_at numbers number place) (has_number numbers number (suc place) n) h in
    rw (here, and-false) (omega (arith, place-in-none taken numbers members number member n (suc place) later))

module _ (test : ℕ → Bool) where
  -- found among n places: those behind them are not looked at
  pub first_found : (n m place : ℕ) → first_of test place n < place + n → first_of test place (n + m) ≡ first_of test place n
  unfolding first_of
  first_found zero m place h = absurd (omega arith)
  first_found (suc n) m place h = rw suc-add (go (test place) h (first_found n m (suc place)))
    where
      go : (t : Bool) → first_or t place (first_of test (suc place) n) < place + suc n
          → (first_of test (suc place) n < suc place + n → first_of test (suc place) (n + m) ≡ first_of test (suc place) n)
          → first_or t place (first_of test (suc place) (n + m)) ≡ first_or t place (first_of test (suc place) n)
      go true h later = refl
      go false h later = later (omega (arith, h))

  -- not found among them: those behind them are
  pub first_past : (n m place : ℕ) → place + n ≤ first_of test place n → first_of test place (n + m) ≡ first_of test (place + n) m
  unfolding first_of
  first_past zero m place h = rw (zero-add, add-zero)
  first_past (suc n) m place h = rw (suc-add, add-suc) (go (test place) h (first_past n m (suc place)))
    where
      go : (t : Bool) → place + suc n ≤ first_or t place (first_of test (suc place) n)
          → (suc place + n ≤ first_of test (suc place) n → first_of test (suc place) (n + m) ≡ first_of test (suc place + n) m)
          → first_or t place (first_of test (suc place) (n + m)) ≡ first_of test (suc (place + n)) m
      go true h later = absurd (omega (arith, h))
      go false h later = rw suc-add at (later (omega (arith, h)))

  -- none of n places from one on passes
  pub first-nowhere : (n place : ℕ) → ((p : ℕ) → place ≤ p → p < place + n → test p ≡ false) → first_of test place n ≡ place + n
  unfolding first_of
  first-nowhere zero place h = omega arith
  first-nowhere (suc n) place h =
      let here : test place ≡ false = h place (omega arith) (omega arith) in
      let later = first-nowhere n (suc place) (λ p k l. h p (omega arith) (omega arith)) in
      rw here (omega (arith, later))

  -- one of n places from the first on passes, and none before it
  pub first-is : (n p : ℕ) → p < n → test p ≡ true → ((q : ℕ) → q < p → test q ≡ false) → first_of test 0 n ≡ p
  first-is n p h e f =
      let none = first-nowhere p 0 (λ q k l. f q (omega arith)) in
      let all : p + suc (n - p - 1) ≡ n = omega arith in
      rw all at (rw zero-add at (first_past p (suc (n - p - 1)) 0 (omega (arith, none))) ∙ first-hit test p (n - p - 1) e)

  -- found, or none of the 512 passes
  pub first-sought : (p : ℕ) → p ≤ places → (p < places → true ≡ test p) → ((q : ℕ) → q < p → false ≡ test q) → p ≡ first_of test 0 places
  first-sought p h here before =
      ⊎_elim
      (λ below. sym (first-is places p (omega tests) (sym (here (omega tests))) (λ q k. sym (before q k))))
      (λ behind. let all : p ≡ places = omega tests in all ∙ sym (first-nowhere places 0 (λ q j k. sym (before q (omega (arith, all, k))))))
      (decided (ltb p places))
