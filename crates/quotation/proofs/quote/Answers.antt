use mathlib.Core.Path.{sym, ap, ◌∙◌}
use Rattle.quotation.specs.QuoteCall.{quoted_by, quoted-by, quote-placed}
use Rattle.quotation.proofs.quote.Goals as goal

pub quote_done-requires : goal.quote_done-requires
quote_done-requires c = quote-placed c.args.session c.args.e (sym (rw c.old_pair-old.ensures at c.in-Ok.ensures))

pub returns-in-Err : goal.returns-in-Err
returns-in-Err c =
    let a = c.args in
    rw c.from.ensures (ap (quoted_by a.session) (rw c.old_pair-old.ensures at c.in-Err.ensures) ∙ quoted-by a.session a.e c.requires)

pub returns-in-Ok : goal.returns-in-Ok
returns-in-Ok c =
    let a = c.args in
    rw c.quote_done.ensures (ap (quoted_by a.session) (rw c.old_pair-old.ensures at c.in-Ok.ensures) ∙ quoted-by a.session a.e c.requires)
