-- The call leaves a sound session.
use Rattle.std.proofs.Common.{sym, subst}
use Rattle.session.specs.declared.Session.{Session}
use Rattle.session.specs.Sound.{Sound}
use Rattle.entries.specs.SoundAfter.{entered-sound}
use Rattle.entries.specs.declared.Entered.{Entered}
use Rattle.looks.proofs.entered.Goals as goal

pub returns : goal.returns
returns c = subst (λ (r : Entered Session). Sound r.session) (sym c.order.ensures) (entered-sound _ _ c.requires)
