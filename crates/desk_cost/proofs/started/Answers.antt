use Rattle.std.proofs.Common.{sym, subst}
use Rattle.desk.specs.Sound.{SoundDesk}
use Rattle.desk.specs.SoundAfter.{fresh-desk-sound, started-desk-sound}
use Rattle.entries.specs.declared.Started.{Started}
use Rattle.desk.specs.declared.Desk.{Desk}
use Rattle.desk_cost.proofs.started.Goals as goal

pub start-requires : goal.start-requires
start-requires c = subst SoundDesk (sym c.fresh-fresh.ensures) fresh-desk-sound

pub returns : goal.returns
returns c =
    subst (λ (r : Started Desk). SoundDesk r.session) (sym c.start.ensures)
    (started-desk-sound _ _ (subst SoundDesk (sym c.fresh-fresh.ensures) fresh-desk-sound))
