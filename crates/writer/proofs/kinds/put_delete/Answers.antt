use mathlib.Core.List.{[], ◌∷◌}
use Rattle.records.specs.declared.{kinds.Record.Record}
use Rattle.writer.specs.Fields.{header-then, field-then, field-last}
use Rattle.writer.proofs.kinds.put_delete.Goals as goal

pub returns : goal.returns
returns c = let x = c.args.deletion in
    header-then _ _ _ _ _ _ (Record.Delete x) c.requires c.put_four-p.ensures
    (λ room. field-then _ _ _ _ _ _ 4 x.number (2 ∷ []) (x.member ∷ []) room c.put_four-q.ensures
    (λ room. field-last _ _ _ _ 2 x.member c.put_two.ensures))
