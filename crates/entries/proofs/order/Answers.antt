use mathlib.Core.Bool.{false}
use mathlib.Core.Path.{sym, ap, ◌∙◌}
use Rattle.effects.specs.Effects.{order-place}
use Rattle.entries.specs.Entry.{control_reference}
use Rattle.entries.specs.Changes.{entered_by, entered_by_lem}
use Rattle.entries.proofs.order.Goals as goal

pub changed-requires : goal.changed-requires
changed-requires c =
    let s = c.args.session in
    order-place s.phase s.parameters (control_reference s) false s.given s.book.taken c.args.e (sym c.in-Ok.ensures)

pub returns-in-Err : goal.returns-in-Err
returns-in-Err c = rw c.from.ensures (ap (entered_by c.args.session) c.in-Err.ensures ∙ entered_by_lem c.args.session c.args.e)

pub returns-in-Ok : goal.returns-in-Ok
returns-in-Ok c = rw c.changed.ensures (ap (entered_by c.args.session) c.in-Ok.ensures ∙ entered_by_lem c.args.session c.args.e)
