-- The loops' invariant: no place before the one reached is sought.
use Rattle.std.proofs.Common.{ℕ, ◌*◌, ◌<◌, false}
use Rattle.book.proofs.columns.first_place.Given as goal

abbrev pub invariant-loop-place : goal.invariant-loop-place
invariant-loop-place g l = (p : ℕ) → p < l.place → g.S.Fn.post l.sought (p, tt) false

abbrev pub invariant-loop-group : goal.invariant-loop-group
invariant-loop-group g l = (p : ℕ) → p < l.group * 16 → g.S.Fn.post l.sought (p, tt) false
