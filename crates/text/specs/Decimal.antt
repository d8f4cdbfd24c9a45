-- A number in decimal, counted and written from its last digit to its first.
use Rattle.std.specs.Prelude.{ℕ, zero, suc, ◌+◌, ◌-◌, ◌*◌, ◌^◌, ◌/◌, ◌%◌, ◌≤◌, ◌<◌, Bool, true, false, ◌≡◌, refl, List, [], ◌∷◌, ◌++◌, ltb, length, set, drop}
use Rattle.std.proofs.Common.{sym, ap, ◌∙◌, append_assoc, append-nil, pow-suc, arith, lt-ltb, le-ltb, ltb-true, ltb-false, length-append, length-set, drop_at}
use Rattle.std.proofs.Math.Seq.{drop-length}
use Rattle.text.specs.Text.{digit, pair, digits, most_digits, decimal}
use Rattle.lists.specs.Put.{put, Wrote, put-nothing, put-before, put_then}

-- the last n digits of a number, zeros in front where it has fewer
unfoldable pub tens : ℕ → ℕ → List ℕ
tens zero x = []
tens (suc n) x = tens n (x / 10) ++ (digit (x % 10) ∷ [])

tens-length : (n x : ℕ) → length (tens n x) ≡ n
unfolding tens
tens-length zero x = refl
tens-length (suc n) x = omega (arith, length-append (tens n (x / 10)) (digit (x % 10) ∷ []), tens-length n (x / 10))

pub digits-small : (n x : ℕ) → x < 10 → digits (suc n) x ≡ digit x ∷ []
unfolding digits
digits-small n x h = rw (lt-ltb x 10 h)

digits-large : (n x : ℕ) → 10 ≤ x → digits (suc n) x ≡ digits n (x / 10) ++ (digit (x % 10) ∷ [])
unfolding digits
digits-large n x h = rw (le-ltb x 10 h)

pub digits-pair : (n x : ℕ) → 10 ≤ x → x < 100 → digits (suc (suc n)) x ≡ pair x
digits-pair n x low high = rw (digits-large (suc n) x low, digits-small n (x / 10) (omega arith))

-- a pair taken off: the digits of the hundreds are left
digits-hundreds : (n x : ℕ) → 100 ≤ x → digits (suc (suc n)) x ≡ digits n (x / 100) ++ pair (x % 100)
digits-hundreds n x h =
    let hundreds : x / 10 / 10 ≡ x / 100 = omega arith in
    let first : x / 10 % 10 ≡ x % 100 / 10 = omega arith in
    let second : x % 10 ≡ x % 100 % 10 = omega arith in
    rw (digits-large (suc n) x (omega arith), digits-large n (x / 10) (omega arith), append_assoc, hundreds, first, second)

digits-none : (x : ℕ) → digits 0 x ≡ []
unfolding digits
digits-none x = refl

tens-none : (x : ℕ) → tens 0 x ≡ []
unfolding tens
tens-none x = refl

tens-suc : (n x : ℕ) → tens (suc n) x ≡ tens n (x / 10) ++ (digit (x % 10) ∷ [])
unfolding tens
tens-suc n x = refl

-- each digit that a number has is one of its last digits
digits-tens : (n x : ℕ) → digits n x ≡ tens (length (digits n x)) x
digits-tens zero x = rw (digits-none x) (sym (tens-none x))
digits-tens (suc n) x = go (ltb x 10) refl (digits-tens n (x / 10))
  where
    one : x < 10 → digit x ∷ [] ≡ tens 1 x
    one h =
        let e : x % 10 ≡ x = omega (arith, h) in
        rw (tens-suc 0 x, tens-none (x / 10), e)

    more : (l : List ℕ) → tens (length (l ++ (digit (x % 10) ∷ []))) x ≡ tens (length l) (x / 10) ++ (digit (x % 10) ∷ [])
    more l =
        let e : length (l ++ (digit (x % 10) ∷ [])) ≡ suc (length l) = omega (arith, length-append l (digit (x % 10) ∷ [])) in
        ap (λ (k : ℕ). tens k x) e ∙ tens-suc (length l) x

    go : (b : Bool) → ltb x 10 ≡ b → digits n (x / 10) ≡ tens (length (digits n (x / 10))) (x / 10) → digits (suc n) x ≡ tens (length (digits (suc n) x)) x
    go true e r = rw (digits-small n x (ltb-true x 10 e)) (one (ltb-true x 10 e))
    go false e r =
        rw (digits-large n x (ltb-false x 10 e))
        (ap (λ (l : List ℕ). l ++ (digit (x % 10) ∷ [])) r ∙ sym (more (digits n (x / 10))))

digits-length : (n x : ℕ) → length (digits n x) ≤ n
digits-length zero x = rw (digits-none x) (omega arith)
digits-length (suc n) x = go (ltb x 10) refl (digits-length n (x / 10))
  where
    go : (b : Bool) → ltb x 10 ≡ b → length (digits n (x / 10)) ≤ n → length (digits (suc n) x) ≤ suc n
    go true e r = rw (digits-small n x (ltb-true x 10 e)) (omega arith)
    go false e r = rw (digits-large n x (ltb-false x 10 e)) (omega (arith, r, length-append (digits n (x / 10)) (digit (x % 10) ∷ [])))

pub decimal-length : (x : ℕ) → length (decimal x) ≤ most_digits
decimal-length x = digits-length most_digits x

-- a number below a power of ten has no more digits than that says
digits-short : (n f x : ℕ) → x < 10 ^ suc n → length (digits f x) ≤ suc n
digits-short n zero x h = rw (digits-none x) (omega arith)
digits-short zero (suc f) x h = rw (digits-small f x (omega (arith, h))) (omega arith)
digits-short (suc n) (suc f) x h = go (ltb x 10) refl (digits-short n f (x / 10))
  where
    less : (p : ℕ) → x < p * 10 → x / 10 < p
    less p b = omega (arith, b)

    go : (b : Bool) → ltb x 10 ≡ b → (x / 10 < 10 ^ suc n → length (digits f (x / 10)) ≤ suc n) → length (digits (suc f) x) ≤ suc (suc n)
    go true e later = rw (digits-small f x (ltb-true x 10 e)) (omega arith)
    go false e later =
        rw (digits-large f x (ltb-false x 10 e))
        (omega (arith, length-append (digits f (x / 10)) (digit (x % 10) ∷ []), later (less (10 ^ suc n) (rw (pow-suc 10 (suc n)) at h))))

pub decimal-short : (n x : ℕ) → x < 10 ^ suc n → length (decimal x) ≤ suc n
decimal-short n x h = digits-short n most_digits x h

-- the hundreds of a number, then a pair
pub hundreds-then : (old one two : List ℕ) (at p r x : ℕ) (hundreds : List ℕ) → at ≤ length old → 100 ≤ x → digits 18 (x / 100) ≡ hundreds
    → Wrote old one at p hundreds → Wrote one two p r (pair (x % 100)) → Wrote old two at r (decimal x)
hundreds-then old one two at p r x hundreds room h e first second =
    rw (digits-hundreds 18 x h, e) (put_then old one two at p r hundreds (pair (x % 100)) room first second)

-- after n - 1 divisions by ten, each of which takes a digit off
abbrev pub Counted : ℕ → ℕ → ℕ → Type 0
Counted x n rest = (n ≤ most_digits) × (rest < 10 ^ (suc most_digits - n)) × (length (digits (suc most_digits - n) rest) + n ≡ length (decimal x) + 1)

pub counted_start : (x : ℕ) → x < 18_446_744_073_709_551_616 → Counted x 1 x
counted_start x h = (omega arith, omega (arith, h), refl)

pub counted_step : (x n rest : ℕ) → Counted x n rest → 10 ≤ rest → Counted x (n + 1) (rest / 10)
counted_step x n rest s h = go (suc most_digits - n) refl s.1 s.2
  where
    go : (f : ℕ) → suc most_digits - n ≡ f → rest < 10 ^ f → length (digits f rest) + n ≡ length (decimal x) + 1 → Counted x (n + 1) (rest / 10)
    go zero e b l = absurd (omega (arith, e, s.0))
    go (suc zero) e b l = absurd (omega (arith, b, h))
    go (suc (suc f)) e b l =
        let k : suc most_digits - (n + 1) ≡ suc f = omega (arith, e) in (
          omega (arith, e),
          rw k (less (10 ^ suc f) (rw (pow-suc 10 (suc f)) at b)),
          rw k (omega (arith, length-append (digits (suc f) (rest / 10)) (digit (rest % 10) ∷ []), rw (digits-large (suc f) rest h) at l)),
        )
      where
        less : (p : ℕ) → rest < p * 10 → rest / 10 < p
        less p b = omega (arith, b)

pub counted-end : (x n rest : ℕ) → Counted x n rest → rest < 10 → n ≡ length (decimal x)
counted-end x n rest s h =
    let e : suc most_digits - n ≡ suc (most_digits - n) = omega (arith, s.0) in
    let l : length (digits (suc most_digits - n) rest) ≡ 1 = rw (e, digits-small (most_digits - n) rest h) in
    omega (arith, l, s.2)

-- the first i digits are still to come: they are the last i of what is left of the number
abbrev pub Shown : ℕ → ℕ → List ℕ → List ℕ → ℕ → ℕ → Type 0
Shown x at old out i rest =
    (i ≤ length (decimal x)) × (length out ≡ length old) × (out ≡ put old (at + i) (drop i (decimal x))) × (tens i rest ++ drop i (decimal x) ≡ decimal x)

pub shown-start : (x at n : ℕ) (old : List ℕ) → at + most_digits ≤ length old → n ≡ length (decimal x) → Shown x at old old n x
shown-start x at n old room e = rw e (
  omega arith,
  refl,
  rw (drop-length (decimal x)) (put-nothing old (at + length (decimal x)) (omega (arith, room, decimal-length x))),
  rw (drop-length (decimal x)) (append-nil (tens (length (decimal x)) x) ∙ sym (digits-tens most_digits x)),
)

pub shown-step : (x at i j rest : ℕ) (old out : List ℕ) → at + most_digits ≤ length old → i ≡ j + 1 → Shown x at old out i rest
    → Shown x at old (set out (at + j) (48 + rest % 10)) j (rest / 10)
shown-step x at i j rest old out room e s = (
  omega (arith, e, s.0),
  length-set out (at + j) (48 + rest % 10) ∙ s.1,
  rw (s.2, next, place) (put-before old (at + j) (digit (rest % 10)) (drop i (decimal x)) (omega (arith, room, e, s.0, decimal-length x))),
  rw next whole,
)
  where
    place : at + i ≡ at + j + 1
    place = omega (arith, e)

    split : tens i rest ≡ tens j (rest / 10) ++ (digit (rest % 10) ∷ [])
    split =
        let k : i ≡ suc j = omega (arith, e) in
        ap (λ (n : ℕ). tens n rest) k ∙ tens-suc j rest

    whole : tens j (rest / 10) ++ (digit (rest % 10) ∷ drop i (decimal x)) ≡ decimal x
    whole =
        sym (append_assoc (tens j (rest / 10)) (digit (rest % 10) ∷ []) (drop i (decimal x)))
        ∙ ap (λ (l : List ℕ). l ++ drop i (decimal x)) (sym split)
        ∙ s.3

    next : drop j (decimal x) ≡ digit (rest % 10) ∷ drop i (decimal x)
    next =
        ap (λ (l : List ℕ). drop j l) (sym whole)
        ∙ drop_at (tens j (rest / 10)) (digit (rest % 10) ∷ drop i (decimal x)) j (tens-length j (rest / 10))

pub shown-end : (x at i rest : ℕ) (old out : List ℕ) → i ≡ 0 → Shown x at old out i rest → out ≡ put old at (decimal x)
shown-end x at i rest old out e s =
    let p : at + 0 ≡ at = omega arith in
    s.2 ∙ rw (e, p)
