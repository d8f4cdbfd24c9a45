-- Groups: sixteen places whose marks are looked at together.
use Rattle.std.specs.Prelude.{ℕ, zero, suc, ◌+◌, ◌≤◌, false, ◌||◌, ◌≡◌, List}
use Rattle.std.proofs.Math.Bool.{or_assoc, or-false}
use Rattle.std.proofs.Math.Numerals.{towards_numerals}
use Rattle.std.proofs.Common.{arith}
use Rattle.lists.specs.Tests.{neither}
use Rattle.book.specs.Groups.{has_at, has_in, has_number}
use Rattle.book.specs.Resting.{first_of}
use Rattle.quotes.specs.Quotes.{quote_place_in}

-- whether one of them has this number, one after the other
pub has-number-sixteen : (numbers : List ℕ) (number place : ℕ)
    → has_at numbers number place || has_at numbers number (place + 1) || has_at numbers number (place + 2) || has_at numbers number (place + 3)
    || has_at numbers number (place + 4) || has_at numbers number (place + 5) || has_at numbers number (place + 6) || has_at numbers number (place + 7)
    || has_at numbers number (place + 8) || has_at numbers number (place + 9) || has_at numbers number (place + 10) || has_at numbers number (place + 11)
    || has_at numbers number (place + 12) || has_at numbers number (place + 13) || has_at numbers number (place + 14) || has_at numbers number (place + 15)
    ≡ has_number numbers number place 16
unfolding has_in
has-number-sixteen numbers number place = simp (or_assoc, or-false, towards_numerals)

-- none of n places has a mark: none of them is the side sought
pub quote-in-none : (quoted members sides : List ℕ) (member side n place : ℕ) → has_number quoted 1 place n ≡ false → place + n ≤ quote_place_in quoted members sides member side place n
unfolding first_of has_in
quote-in-none quoted members sides member side zero place h = omega arith
quote-in-none quoted members sides member side (suc n) place h =
    let (here, later) = neither (has_at quoted 1 place) (has_number quoted 1 (suc place) n) h in
    rw here (omega (arith, quote-in-none quoted members sides member side n (suc place) later))
