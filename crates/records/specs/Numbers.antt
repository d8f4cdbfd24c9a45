-- Numbers of 2, 4 and 8 bytes, each from its two halves and from its bytes, and a byte.
use Rattle.std.specs.Prelude.{ℕ, zero, suc, ◌+◌, ◌*◌, ◌-◌, ◌≤◌, ◌≡◌, refl, List, ◌++◌, length, take, drop, get_or, map}
use Rattle.std.specs.List.{range_with_len}
use Rattle.std.specs.Int.{from_le_bytes}
use Rattle.std.proofs.Common.{sym, ◌∙◌, get_or-take, get_or-drop, w16, w32, w64, arith}
use Rattle.std.proofs.Math.ListN.{get_or-eq_default, get_or-append}
use Rattle.records.specs.Fields.{number}

pub number-one : (bytes : List ℕ) (place : ℕ) → get_or bytes place 0 ≡ number bytes place 1
unfolding number
number-one bytes place = omega arith

-- behind the end there are zeros
pub number_past : (bytes : List ℕ) (place : ℕ) → length bytes ≤ place → 0 ≡ number bytes place 1
number_past bytes place h = sym (get_or-eq_default bytes 0 h) ∙ number-one bytes place

-- from its two halves
pub number-two : (bytes : List ℕ) (place : ℕ) → number bytes place 1 + 256 * number bytes (place + 1) 1 ≡ number bytes place 2
unfolding number
number-two bytes place = let e : place + 1 ≡ suc place = omega arith in rw e (omega arith)

pub number-four : (bytes : List ℕ) (place : ℕ) → number bytes place 2 + 65_536 * number bytes (place + 2) 2 ≡ number bytes place 4
unfolding number
number-four bytes place = let e : place + 2 ≡ suc (suc place) = omega arith in rw e (omega arith)

pub number-eight : (bytes : List ℕ) (place : ℕ) → number bytes place 4 + 4_294_967_296 * number bytes (place + 4) 4 ≡ number bytes place 8
unfolding number
number-eight bytes place = let e : place + 4 ≡ suc (suc (suc (suc place))) = omega arith in rw e (omega arith)

-- .. and from its bytes one by one
pub bytes-two : (bytes : List ℕ) (place : ℕ) → from_le_bytes w16 (map (λ i. number bytes (place + i) 1) (range_with_len 0 2)) ≡ number bytes place 2
unfolding number
bytes-two bytes place =
    let e0 : place + 0 ≡ place = omega arith in
    let e1 : place + 1 ≡ suc place = omega arith in
    rw (e0, e1) (omega arith)

pub bytes-four : (bytes : List ℕ) (place : ℕ) → from_le_bytes w32 (map (λ i. number bytes (place + i) 1) (range_with_len 0 4)) ≡ number bytes place 4
unfolding number
bytes-four bytes place =
    let e0 : place + 0 ≡ place = omega arith in
    let e1 : place + 1 ≡ suc place = omega arith in
    let e2 : place + 2 ≡ suc (suc place) = omega arith in
    let e3 : place + 3 ≡ suc (suc (suc place)) = omega arith in
    rw (e0, e1, e2, e3) (omega arith)

pub bytes-eight : (bytes : List ℕ) (place : ℕ) → from_le_bytes w64 (map (λ i. number bytes (place + i) 1) (range_with_len 0 8)) ≡ number bytes place 8
unfolding number
bytes-eight bytes place =
    let e0 : place + 0 ≡ place = omega arith in
    let e1 : place + 1 ≡ suc place = omega arith in
    let e2 : place + 2 ≡ suc (suc place) = omega arith in
    let e3 : place + 3 ≡ suc (suc (suc place)) = omega arith in
    let e4 : place + 4 ≡ suc (suc (suc (suc place))) = omega arith in
    let e5 : place + 5 ≡ suc (suc (suc (suc (suc place)))) = omega arith in
    let e6 : place + 6 ≡ suc (suc (suc (suc (suc (suc place))))) = omega arith in
    let e7 : place + 7 ≡ suc (suc (suc (suc (suc (suc (suc place)))))) = omega arith in
    rw (e0, e1, e2, e3, e4, e5, e6, e7) (omega arith)

-- of a front part
pub number-front : (n : ℕ) (bytes more : List ℕ) (place : ℕ) → place + n ≤ length bytes → number (bytes ++ more) place n ≡ number bytes place n
unfolding number
number-front zero bytes more place h = refl
number-front (suc n) bytes more place h = rw (get_or-append bytes more 0 place (omega arith), number-front n bytes more (suc place) (omega arith))

pub number-taken : (n m : ℕ) (bytes : List ℕ) (place : ℕ) → place + n ≤ m → number (take m bytes) place n ≡ number bytes place n
unfolding number
number-taken zero m bytes place h = refl
number-taken (suc n) m bytes place h = rw (get_or-take m bytes place 0 (omega arith), number-taken n m bytes (suc place) (omega arith))

-- behind the first k bytes
pub number-moved : (n k : ℕ) (bytes : List ℕ) (place : ℕ) → number (drop k bytes) place n ≡ number bytes (k + place) n
unfolding number
number-moved zero k bytes place = refl
number-moved (suc n) k bytes place =
    let e : k + suc place ≡ suc (k + place) = omega arith in
    rw (get_or-drop k bytes place 0, number-moved n k bytes (suc place), e)

-- of the n bytes cut out from a place on
pub number-cut : (n : ℕ) (bytes : List ℕ) (place : ℕ) → number (take (place + n - place) (drop place bytes)) 0 n ≡ number bytes place n
number-cut n bytes place =
    let e : place + n - place ≡ n = omega arith in
    let o : place + 0 ≡ place = omega arith in
    rw e (number-taken n n (drop place bytes) 0 (omega arith) ∙ number-moved n place bytes 0 ∙ rw o)
