use Rattle.std.proofs.Common.{sym, subst}
use Rattle.session.specs.declared.Session.{Session}
use Rattle.session.specs.Sound.{Sound}
use Rattle.entries.specs.SoundAfter.{entered-sound}
use Rattle.entries.specs.declared.Entered.{Entered}
use Rattle.auction_cost.proofs.filled.Goals as goal

pub loop-order-preserved : goal.loop-order-preserved
loop-order-preserved c = subst (λ (r : Entered Session). Sound r.session) (sym c.order.ensures) (entered-sound _ _ c.loop-order.invariant)
