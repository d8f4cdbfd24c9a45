use mathlib.Core.List.{[], ◌∷◌}
use Rattle.writer.specs.Fields.{field-then, field-last}
use Rattle.writer.proofs.kinds.put_row.Goals as goal

pub returns : goal.returns
returns c = let row = c.args.row in
    field-then _ _ _ _ _ _ 4 row.lowest (4 ∷ []) (row.step ∷ []) c.requires c.put_four-p.ensures
    (λ room. field-last _ _ _ _ 4 row.step c.put_four.ensures)
