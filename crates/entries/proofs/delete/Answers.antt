use mathlib.Core.Path.{sym, ap, ◌∙◌}
use Rattle.effects.specs.Effects.{delete-place}
use Rattle.entries.specs.Changes.{deleted_by, deleted-by}
use Rattle.entries.proofs.delete.Goals as goal

pub changed-requires : goal.changed-requires
changed-requires c =
    let s = c.args.session in
    delete-place s.phase s.given s.book.taken _ c.args.number c.args.member (sym c.in-Ok.ensures)

pub returns-in-Err : goal.returns-in-Err
returns-in-Err c =
    let a = c.args in
    rw c.from.ensures (ap (deleted_by a.session) (rw c.place_of-place.ensures at c.in-Err.ensures) ∙ deleted-by a.session a.number a.member)

pub returns-in-Ok : goal.returns-in-Ok
returns-in-Ok c =
    let a = c.args in
    rw c.changed.ensures (ap (deleted_by a.session) (rw c.place_of-place.ensures at c.in-Ok.ensures) ∙ deleted-by a.session a.number a.member)
