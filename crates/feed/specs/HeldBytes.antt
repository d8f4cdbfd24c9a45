-- The bytes held in a buffer, and a read behind them.
use Rattle.std.specs.Prelude.{ℕ, ◌+◌, ◌-◌, ◌≤◌, ◌<◌, Bool, ◌≡◌, List, ◌++◌, eqb, length, take, drop}
use Rattle.std.proofs.Common.{sym, ap, ◌∙◌, arith, length-drop, length-take-le, drop_at, take-add, drop-drop}
use Rattle.std.proofs.Math.Seq.{take-append-add}
use Rattle.std.proofs.lemmas.List.{take-append-le}
use Rattle.feed.specs.declared.Held.{Held}

-- so many bytes or numbers stand at the front of these
abbrev pub IsFront : ℕ → List ℕ → Type 0
IsFront n xs = (n ≤ length xs) × (n ≡ length (take n xs))

-- the bytes held lie in a buffer of this size
abbrev pub Within : ℕ → Held → Type 0
Within size held = (held.from ≤ held.to) × (held.to ≤ size)

-- .. and are these
abbrev pub held_in : Held → List ℕ → List ℕ
held_in held input = take (held.to - held.from) (drop held.from input)

-- what was held, and a read behind it, in a buffer with room for one byte more at least; the input has ended where the read brought nothing
pub record ReadBehind (size : ℕ) (before after : List ℕ) (ended : Bool) : Type 0 where
  pub room : length before < size
  pub read : List ℕ
  pub behind : after ≡ before ++ read
  pub ends : ended ≡ eqb (length read) 0

pub held-length : (from to : ℕ) (input : List ℕ) → from ≤ to → to ≤ length input → length (take (to - from) (drop from input)) ≡ to - from
held-length from to input h k = length-take-le (to - from) (drop from input) (omega (arith, length-drop from input))

-- the bytes behind a place of those held
pub held-left : (input : List ℕ) (from to place : ℕ) → from + place ≤ to → to ≤ length input
    → take (to - (from + place)) (drop (from + place) input) ≡ drop place (take (to - from) (drop from input))
held-left input from to place h k =
    sym
    (ap (λ (n : ℕ). drop place (take n (drop from input))) split
    ∙ ap (drop place) (take-add place (to - (from + place)) (drop from input))
    ∙ drop_at (take place (drop from input)) (take (to - (from + place)) (drop place (drop from input))) place (length-take-le place (drop from input) (omega (arith, length-drop from input)))
    ∙ ap (take (to - (from + place))) (drop-drop place from input))
  where
    split : to - from ≡ place + (to - (from + place))
    split = omega arith

-- the bytes held moved to the front, and a read behind them
pub read_behind : (size : ℕ) (before moved tail rest : List ℕ) (kept got : ℕ) → length before < size → take kept moved ≡ before → kept ≤ length moved → got ≤ length tail
    → ReadBehind size before (held_in (record { from = 0; to = kept + got; ended = eqb got 0 }) (take kept moved ++ (tail ++ rest))) (eqb got 0)
read_behind size before moved tail rest kept got more same room few = record {
  room = more;
  read = take got tail;
  behind = ap (λ (n : ℕ). take n (take kept moved ++ (tail ++ rest))) held ∙ take-append-add (take kept moved) (tail ++ rest) got ∙ ap (λ (l : List ℕ). take kept moved ++ l) (take-append-le got tail rest few) ∙ ap (λ (l : List ℕ). l ++ take got tail) same;
  ends = ap (λ (n : ℕ). eqb n 0) (sym (length-take-le got tail few));
}
  where
    held : kept + got - 0 ≡ length (take kept moved) + got
    held = omega (arith, length-take-le kept moved room)
