-- Weighing, as the code goes about it: the limits of a queue one after the other, by their ranks.
use Rattle.std.specs.Prelude.{ℕ, Bool, not, ◌&&◌, eqb}

-- a limit, and not the last one weighed
abbrev pub is_new : ℕ → ℕ → Bool
is_new l last = not (eqb l 0) && not (eqb l last)
