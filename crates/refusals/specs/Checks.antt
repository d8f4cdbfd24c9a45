-- Checks: 01 "Refusals by number". The refusals of a call are rows in the order of checks; the first hit answers.
use Rattle.std.specs.Prelude.{ℕ, zero, suc, Bool, true, false, cond, ◌&&◌, List, [], ◌∷◌, ◌++◌, T, ltb, ◌≢◌, ◌≡◌, refl}
use Rattle.std.proofs.Common.{sym, ap, ◌∙◌, arith}

-- a refusal's number, and whether its rule hits
pub record Check : Type 0 where
  pub number : ℕ
  pub hit : Bool

abbrev pub check : ℕ → Bool → Check
check number hit = record { number = number; hit = hit }

-- the number of the first hit; 0 means done
unfoldable pub first_hit : List Check → ℕ
first_hit [] = 0
first_hit (c ∷ cs) = cond c.hit c.number (first_hit cs)

-- each number is above 0
abbrev pub numbered : List Check → Bool
numbered [] = true
numbered (c ∷ cs) = ltb 0 c.number && numbered cs

-- what a call answers by its checks: the refusal of the first hit, or what is done
abbrev pub answered_by : {A : Type 0} → ℕ → (ℕ → A) → A → A
answered_by zero refused done = done
answered_by (suc n) refused done = refused (suc n)

abbrev pub answered : {A : Type 0} → List Check → (ℕ → A) → A → A
answered checks refused done = answered_by (first_hit checks) refused done

-- .. by what is known of the first hit
module _ {A : Type 0} (checks : List Check) (refused : ℕ → A) (done : A) where
  pub answered-refused : {n : ℕ} → n ≡ first_hit checks → n ≢ 0 → refused n ≡ answered checks refused done
  answered-refused {n} e h = go n h ∙ ap (λ (m : ℕ). answered_by m refused done) e where
    go : (m : ℕ) → m ≢ 0 → refused m ≡ answered_by m refused done
    go zero k = absurd (k refl)
    go (suc m) k = refl

  pub answered-done : 0 ≡ first_hit checks → done ≡ answered checks refused done
  answered-done e = ap (λ (m : ℕ). answered_by m refused done) e

  pub answered-cases : (P : A → Type 0) → ((n : ℕ) → n ≢ 0 → n ≡ first_hit checks → P (refused n)) → (0 ≡ first_hit checks → P done) → P (answered checks refused done)
  answered-cases P refuses does = go (first_hit checks) refl where
    go : (m : ℕ) → m ≡ first_hit checks → P (answered_by m refused done)
    go zero e = does e
    go (suc m) e = refuses (suc m) (λ z. omega arith) e

  -- where a refusal answers its number and what is done answers 0, the answer is the first hit; and one that is not 0 is a refusal
  module _ (number : A → ℕ) (tells : (n : ℕ) → number (refused n) ≡ n) (zeroed : number done ≡ 0) where
    pub answered-number : number (answered checks refused done) ≡ first_hit checks
    answered-number = answered-cases (λ (x : A). number x ≡ first_hit checks) (λ n h e. tells n ∙ e) (λ e. zeroed ∙ e)

    pub answered-not-done : number (answered checks refused done) ≢ 0 → answered checks refused done ≡ refused (number (answered checks refused done))
    answered-not-done =
        answered-cases (λ (x : A). number x ≢ 0 → x ≡ refused (number x)) (λ n h e k. ap refused (sym (tells n))) (λ e k. absurd (k zeroed))

-- .. read through a function
pub answered-map : {A B : Type 0} (f : A → B) (checks : List Check) (refused : ℕ → A) (done : A)
    → f (answered checks refused done) ≡ answered checks (λ n. f (refused n)) (f done)
answered-map {A} {B} f checks refused done = go (first_hit checks) where
  go : (n : ℕ) → f (answered_by n refused done) ≡ answered_by n (λ m. f (refused m)) (f done)
  go zero = refl
  go (suc n) = refl

-- check by check: one that hits answers, one that doesn't leaves the answer to those after it
pub hits : (number : ℕ) {hit : Bool} (later : List Check) → hit ≡ true → number ≡ first_hit (check number hit ∷ later)
unfolding first_hit
hits number later e = rw e

pub passes : (number : ℕ) {answer : ℕ} {hit : Bool} (later : List Check) → hit ≡ false → answer ≡ first_hit later → answer ≡ first_hit (check number hit ∷ later)
unfolding first_hit
passes number later e h = rw e h

-- .. the last one that doesn't leaves 0
pub passes-last : (number : ℕ) {hit : Bool} → hit ≡ false → 0 ≡ first_hit (check number hit ∷ [])
unfolding first_hit
passes-last number e = rw e
