use Rattle.session.specs.Sound.{fresh-sound}
use Rattle.entries.specs.SoundAfter.{started-sound}
use Rattle.loads.proofs.Taken.{pre-opening}
use Rattle.loads.proofs.started.Goals as goal

pub start-requires : goal.start-requires
start-requires c = rw c.fresh-fresh.ensures fresh-sound

pub returns-clause-sound : goal.returns-clause-sound
returns-clause-sound c = rw (c.start.ensures, c.fresh-fresh.ensures) (started-sound _ _ fresh-sound)

pub returns-clause-phase : goal.returns-clause-phase
returns-clause-phase c = rw (c.start.ensures, c.fresh-fresh.ensures) (pre-opening _ c.start_at.ensures.in_range)
