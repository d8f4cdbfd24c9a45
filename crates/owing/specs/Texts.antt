-- Texts of the first n numbers: only those that say something count, and those of a list's entries are the list's.
use Rattle.std.specs.Prelude.{ℕ, zero, suc, ◌≤◌, ◌<◌, ◌≡◌, refl, List, [], leb, length, get_or, take}
use Rattle.std.proofs.Common.{append-nil, ⊎_elim, arith, take-suc}
use Rattle.lists.specs.Tests.{tests, decided}
use Rattle.text.specs.Text.{texts}
use Rattle.lines.specs.OneByOne.{texts-append}
use Rattle.owing.specs.Owing.{first_texts}

-- by two rules that agree
pub first-same : (f g : ℕ → List ℕ) (n : ℕ) → ((i : ℕ) → i < n → f i ≡ g i) → first_texts f n ≡ first_texts g n
unfolding first_texts
first-same f g zero same = refl
first-same f g (suc n) same = rw (first-same f g n (λ i h. same i (omega arith)), same n (omega arith))

-- .. of which the later say nothing
pub first_stops : (f : ℕ → List ℕ) (k n : ℕ) → k ≤ n → ((i : ℕ) → k ≤ i → i < n → f i ≡ []) → first_texts f n ≡ first_texts f k
unfolding first_texts
first_stops f k zero few silent = let e : k ≡ 0 = omega arith in rw e
first_stops f k (suc n) few silent =
    ⊎_elim
    (λ h. rw (silent n (omega tests) (omega arith), append-nil (first_texts f n)) (first_stops f k n (omega tests) (λ i a b. silent i a (omega arith))))
    (λ h. let e : k ≡ suc n = omega tests in rw e)
    (decided (leb k n))

-- .. of a list's entries
pub first_of : (g : ℕ → List ℕ) (xs : List ℕ) (n : ℕ) → n ≤ length xs → first_texts (λ i. g (get_or xs i 0)) n ≡ texts g (take n xs)
unfolding first_texts
first_of g xs zero h = refl
first_of g xs (suc n) h = rw (take-suc xs n 0 h, texts-append g (take n xs) (get_or xs n 0), first_of g xs n (omega arith))
