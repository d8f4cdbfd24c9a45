-- A fresh session is sound.
use borrow.Author.Rules.{rules}
use native.Mathlib.Omega.{arith}
use Rattle.session.specs.Sound.{fresh-sound}
use Rattle.telling.proofs.transcribed.Goals as goal

pub told-requires : goal.told-requires
told-requires c = (rw c.fresh.ensures fresh-sound, omega arith)
