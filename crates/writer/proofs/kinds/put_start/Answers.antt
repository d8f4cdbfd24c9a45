use mathlib.Core.List.{[], ◌∷◌}
use Rattle.records.specs.declared.{kinds.Record.Record}
use Rattle.records.specs.Fields.{row_widths}
use Rattle.writer.specs.Fields.{header-then, field-then}
use Rattle.writer.proofs.kinds.put_start.Goals as goal

pub returns : goal.returns
returns c = let x = c.args.start in
    header-then _ _ _ _ _ _ (Record.Start x) c.requires c.put_four-p.ensures
    (λ room. field-then _ _ _ _ _ _ 4 x.step (row_widths 0) (x.reference ∷ x.factor ∷ x.threshold ∷ x.most ∷ []) room c.put_four-q.ensures
    (λ room. rw c.as_start.ensures at c.put_later.ensures))
