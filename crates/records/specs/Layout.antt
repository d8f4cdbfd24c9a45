-- A layout written and read: 01 "Session file". For any widths, the numbers that are read from bytes are those whose bytes they are, and no other bytes hold them.
use Rattle.std.specs.Prelude.{ℕ, zero, suc, ◌+◌, ◌*◌, ◌/◌, ◌%◌, ◌^◌, ◌≤◌, ◌<◌, ◌≡◌, refl, List, [], ◌∷◌, ◌++◌, length, take, drop, get_or}
use Rattle.std.proofs.Common.{◌∙◌, ap, append_assoc, pow-suc, arith, length-append, take_all, take-add, drop-drop, drop-cons, drop_at}
use Rattle.std.proofs.Math.Nat.{mod-add-div}
use Rattle.records.specs.Fields.{number, layout_length, fields_from, fields_of}
use Rattle.records.specs.Numbers.{number-moved}

-- the n bytes of a number, the least first
abbrev pub number_bytes : ℕ → ℕ → List ℕ
number_bytes zero x = []
number_bytes (suc n) x = x % 256 ∷ number_bytes n (x / 256)

-- the bytes of fields of such widths that hold such numbers
abbrev pub bytes_of : List ℕ → List ℕ → List ℕ
bytes_of [] ns = []
bytes_of (w ∷ ws) [] = []
bytes_of (w ∷ ws) (n ∷ ns) = number_bytes w n ++ bytes_of ws ns

-- a number for each width, small enough for it
abbrev pub Fit : List ℕ → List ℕ → Type 0
Fit [] [] = Unit
Fit [] (n ∷ ns) = ⊥
Fit (w ∷ ws) [] = ⊥
Fit (w ∷ ws) (n ∷ ns) = (n < 256 ^ w) × Fit ws ns

bytes-length : (n x : ℕ) → length (number_bytes n x) ≡ n
bytes-length zero x = refl
bytes-length (suc n) x = ap suc (bytes-length n (x / 256))

-- a number for each width, whatever it is: as many bytes as the widths say
pub bytes_count : (ws ns : List ℕ) → length ns ≡ length ws → length (bytes_of ws ns) ≡ layout_length ws
bytes_count [] ns h = refl
bytes_count (w ∷ ws) [] h = omega (arith, h)
bytes_count (w ∷ ws) (n ∷ ns) h = rw (length-append (number_bytes w n) (bytes_of ws ns), bytes-length w n, bytes_count ws ns (omega (arith, h)))

number_read : (n x : ℕ) (rest : List ℕ) → x < 256 ^ n → number (number_bytes n x ++ rest) 0 n ≡ x
unfolding number
number_read zero x rest h = omega arith
number_read (suc n) x rest h =
    let e = number_read n (x / 256) rest (omega (arith, pow-suc 256 n)) in
    rw (← number-moved n 1 (x % 256 ∷ number_bytes n (x / 256) ++ rest) 0, e) (mod-add-div x 256)

fields-moved : (ws : List ℕ) (k : ℕ) (part : List ℕ) (place : ℕ) → fields_from ws (drop k part) place ≡ fields_from ws part (k + place)
fields-moved [] k part place = refl
fields-moved (w ∷ ws) k part place =
    let e : k + (place + w) ≡ k + place + w = omega arith in
    rw (number-moved w k part place, fields-moved ws k part (place + w), e)

-- the numbers whose bytes stand in front are read back
pub fields_back : (ws ns rest : List ℕ) → Fit ws ns → fields_of ws (bytes_of ws ns ++ rest) ≡ ns
fields_back [] [] rest h = refl
fields_back [] (n ∷ ns) rest h = elim h [ ]
fields_back (w ∷ ws) [] rest h = elim h [ ]
fields_back (w ∷ ws) (n ∷ ns) rest (small, h) =
    rw (append_assoc (number_bytes w n) (bytes_of ws ns) rest, number_read w n behind small, ← place, ← fields-moved ws w (number_bytes w n ++ behind) 0)
    (rw (drop_at (number_bytes w n) behind w (bytes-length w n)) (ap (λ (l : List ℕ). n ∷ l) (fields_back ws ns rest h)))
  where
    behind : List ℕ
    behind = bytes_of ws ns ++ rest

    place : w + 0 ≡ 0 + w
    place = omega arith

bytes_read : (n : ℕ) (part : List ℕ) (place : ℕ) → place + n ≤ length part → ((i : ℕ) → get_or part i 0 < 256)
    → number_bytes n (number part place n) ≡ take n (drop place part)
unfolding number
bytes_read zero part place h small = refl
bytes_read (suc n) part place h small =
    let least = get_or part place 0 in
    let more = number part (suc place) n in
    let low : (least + 256 * more) % 256 ≡ least = omega (arith, small place) in
    let high : (least + 256 * more) / 256 ≡ more = omega (arith, small place) in
    rw (low, high, bytes_read n part (suc place) (omega arith) small, drop-cons part place 0 (omega arith))

-- the bytes from a place on whose numbers are read are written back
pub bytes-taken : (ws part : List ℕ) (place : ℕ) → place + layout_length ws ≤ length part → ((i : ℕ) → get_or part i 0 < 256)
    → bytes_of ws (fields_from ws part place) ≡ take (layout_length ws) (drop place part)
bytes-taken [] part place h small = refl
bytes-taken (w ∷ ws) part place h small =
    rw (
      bytes_read w part place (omega arith) small,
      bytes-taken ws part (place + w) (omega arith) small,
      take-add w (layout_length ws) (drop place part),
      drop-drop w place part,
    )

-- .. and so is a whole part
pub bytes_back : (ws part : List ℕ) → length part ≡ layout_length ws → ((i : ℕ) → get_or part i 0 < 256) → bytes_of ws (fields_of ws part) ≡ part
bytes_back ws part h small = bytes-taken ws part 0 (omega arith) small ∙ take_all (layout_length ws) part (omega arith)
