use Rattle.std.proofs.Common.{sym, subst}
use Rattle.session.specs.declared.Session.{Session}
use Rattle.session.specs.Sound.{Sound}
use Rattle.entries.specs.SoundAfter.{entered-sound}
use Rattle.entries.specs.declared.Entered.{Entered}
use Rattle.quotation.specs.QuoteSound.{quoted-sound}
use Rattle.quotation.specs.declared.Quoted.{Quoted}
use Rattle.entry_cost.proofs.filled.Goals as goal

pub loop-preserved : goal.loop-preserved
loop-preserved c = subst (λ (r : Entered Session). Sound r.session) (sym c.order.ensures) (entered-sound _ _ c.loop.invariant)

pub returns : goal.returns
returns c = subst (λ (r : Quoted Session). Sound r.session) (sym c.quote.ensures) (quoted-sound _ _ c.loop.invariant)
