-- The call leaves a sound session.
use Rattle.std.proofs.Common.{sym, subst}
use Rattle.session.specs.declared.Session.{Session}
use Rattle.session.specs.Sound.{Sound}
use Rattle.entries.specs.SoundAfter.{started-sound}
use Rattle.entries.specs.declared.Started.{Started}
use Rattle.looks.proofs.started.Goals as goal

pub returns : goal.returns
returns c = subst (λ (r : Started Session). Sound r.session) (sym c.start.ensures) (started-sound _ _ c.requires)
