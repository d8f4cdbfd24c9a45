-- The call leaves a sound session.
use Rattle.std.proofs.Common.{sym, subst}
use Rattle.session.specs.declared.Session.{Session}
use Rattle.session.specs.Sound.{Sound}
use Rattle.entries.specs.SoundAfter.{deleted-sound}
use Rattle.entries.specs.declared.Deleted.{Deleted}
use Rattle.looks.proofs.deleted.Goals as goal

pub returns : goal.returns
returns c = subst (λ (r : Deleted Session). Sound r.session) (sym c.delete.ensures) (deleted-sound _ _ _ c.requires)
