use mathlib.Core.List.{[], ◌∷◌}
use Rattle.writer.specs.Fields.{field-then, field-last}
use Rattle.writer.proofs.kinds.put_later.Goals as goal

pub returns : goal.returns
returns c = let a = c.args.start in
    field-then _ _ _ _ _ _ 4 a.reference (2 ∷ 2 ∷ 8 ∷ []) (a.factor ∷ a.threshold ∷ a.most ∷ []) c.requires c.put_four-p.ensures
    (λ room. field-then _ _ _ _ _ _ 2 a.factor (2 ∷ 8 ∷ []) (a.threshold ∷ a.most ∷ []) room c.put_two-q.ensures
    (λ room. field-then _ _ _ _ _ _ 2 a.threshold (8 ∷ []) (a.most ∷ []) room c.put_two-r.ensures
    (λ room. field-last _ _ _ _ 8 a.most c.put_eight.ensures)))
