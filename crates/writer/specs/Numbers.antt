-- The bytes of a number: those of its lower part, then those of its higher part.
use Rattle.std.specs.Prelude.{ℕ, zero, suc, ◌+◌, ◌*◌, ◌/◌, ◌%◌, ◌^◌, ◌≡◌, refl, List, ◌∷◌, ◌++◌}
use Rattle.std.specs.Int.{byte_at, bytes_low_first}
use Rattle.std.proofs.Common.{◌∙◌, subst, mul_comm, ap, mul_assoc, div-one, arith}
use Rattle.std.proofs.Math.Nat.{pow-succ', div-div-eq-div-mul, mod-add-div}
use Rattle.lists.specs.Put.{Wrote}
use Rattle.records.specs.Layout.{number_bytes}

-- a number below a multiple of 256: its least byte, and what is above it
parts : (x y r k : ℕ) → y + 256 * k ≡ x → r + k ≡ x / 256 → (y % 256 ≡ x % 256) × (y / 256 ≡ r)
parts x y r k whole high = (omega (arith, whole, high), omega (arith, whole, high))

-- the bytes of a number, the first m and then the others
pub halves : (m n x : ℕ) → number_bytes m (x % 256 ^ m) ++ number_bytes n (x / 256 ^ m) ≡ number_bytes (m + n) x
halves zero n x = let e : 0 + n ≡ n = omega arith in rw (div-one x, e)
halves (suc m) n x =
    let above = 256 ^ m in
    let more = x / 256 / above in
    let whole : x % (256 * above) + 256 * (above * more) ≡ x = rw (← div-div-eq-div-mul x 256 above, mul_assoc 256 above more) at (mod-add-div x (256 * above)) in
    let p = parts x (x % (256 * above)) (x / 256 % above) (above * more) whole (mod-add-div (x / 256) above) in
    let e : suc m + n ≡ suc (m + n) = omega arith in
    rw (e, pow-succ' 256 m, p.0, p.1, ← div-div-eq-div-mul x 256 above) (ap (λ (l : List ℕ). x % 256 ∷ l) (halves m n (x / 256)))

byte-is : (i x : ℕ) → byte_at i x ≡ x / 256 ^ i % 256
byte-is zero x = rw (div-one x)
byte-is (suc i) x = refl

-- .. and from a byte on, as std has them
pub low-first : (i n x : ℕ) → bytes_low_first i n x ≡ number_bytes n (x / 256 ^ i)
low-first i zero x = refl
low-first i (suc n) x =
    let above : 256 ^ suc i ≡ 256 ^ i * 256 = pow-succ' 256 i ∙ mul_comm 256 (256 ^ i) in
    rw (byte-is i x, low-first (suc i) n x, above, ← div-div-eq-div-mul x (256 ^ i) 256)

-- bytes that are put are the number's, where std says that they are
pub number-put : (old new : List ℕ) (at r n x : ℕ) {bytes : List ℕ} → bytes ≡ bytes_low_first 0 n x → Wrote old new at r bytes → Wrote old new at r (number_bytes n x)
number-put old new at r n x e wrote =
    let first : x / 256 ^ 0 ≡ x = div-one x in
    subst (λ (text : List ℕ). Wrote old new at r text) (e ∙ low-first 0 n x ∙ rw first) wrote
