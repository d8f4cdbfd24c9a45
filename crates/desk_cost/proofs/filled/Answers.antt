use Rattle.std.proofs.Common.{sym, subst}
use Rattle.desk.specs.Sound.{SoundDesk}
use Rattle.desk.specs.SoundAfter.{entered-desk-sound, quoted-desk-sound}
use Rattle.entries.specs.declared.Entered.{Entered}
use Rattle.quotation.specs.declared.Quoted.{Quoted}
use Rattle.desk.specs.declared.Desk.{Desk}
use Rattle.desk_cost.proofs.filled.Goals as goal

pub loop-order-preserved : goal.loop-order-preserved
loop-order-preserved c = subst (λ (r : Entered Desk). SoundDesk r.session) (sym c.order.ensures) (entered-desk-sound _ _ c.loop-order.invariant)

pub returns : goal.returns
returns c = subst (λ (r : Quoted Desk). SoundDesk r.session) (sym c.quote.ensures) (quoted-desk-sound _ _ c.loop-order.invariant)
