-- Text: words and numbers as bytes of ASCII.
use Rattle.std.specs.Prelude.{ℕ, zero, suc, ◌+◌, ◌/◌, ◌%◌, cond, List, [], ◌∷◌, ◌++◌, ltb}

abbrev pub digit : ℕ → ℕ
digit d = 48 + d

-- two digits, the first of which may be 0
abbrev pub pair : ℕ → List ℕ
pair x = digit (x / 10) ∷ digit (x % 10) ∷ []

-- a number in decimal, of at most n digits
unfoldable pub digits : ℕ → ℕ → List ℕ
digits zero x = []
digits (suc n) x = cond (ltb x 10) (digit x ∷ []) (digits n (x / 10) ++ (digit (x % 10) ∷ []))

-- a number of 64 bits has at most so many digits
abbrev pub most_digits : ℕ
most_digits = 20

abbrev pub decimal : ℕ → List ℕ
decimal x = digits most_digits x

abbrev pub space : ℕ
space = 32

abbrev pub newline : ℕ
newline = 10

-- a number behind a space
abbrev pub numeral : ℕ → List ℕ
numeral x = space ∷ decimal x

abbrev pub numeral_room : ℕ
numeral_room = 1 + most_digits

-- texts one after another
abbrev pub texts : {A : Type 0} → (A → List ℕ) → List A → List ℕ
texts f [] = []
texts f (x ∷ xs) = f x ++ texts f xs

-- t r a d e
abbrev pub trade_word : List ℕ
trade_word = 116 ∷ 114 ∷ 97 ∷ 100 ∷ 101 ∷ []

-- f a u l t
abbrev pub fault_word : List ℕ
fault_word = 102 ∷ 97 ∷ 117 ∷ 108 ∷ 116 ∷ []

-- e n d
abbrev pub end_word : List ℕ
end_word = 101 ∷ 110 ∷ 100 ∷ []
