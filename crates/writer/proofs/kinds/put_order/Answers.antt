use mathlib.Core.List.{[], ◌∷◌}
use Rattle.records.specs.declared.{kinds.Record.Record}
use Rattle.writer.specs.Fields.{header-then, field-then, field-last}
use Rattle.writer.proofs.kinds.put_order.Goals as goal

pub returns : goal.returns
returns c = let x = c.args.entry in
    header-then _ _ _ _ _ _ (Record.Order x) c.requires c.put_four-p.ensures
    (λ room. field-then _ _ _ _ _ _ 2 x.member (1 ∷ 1 ∷ 4 ∷ 4 ∷ []) (x.side ∷ x.validity ∷ x.quantity ∷ x.limit ∷ []) room c.put_two-q.ensures
    (λ room. field-then _ _ _ _ _ _ 1 x.side (1 ∷ 4 ∷ 4 ∷ []) (x.validity ∷ x.quantity ∷ x.limit ∷ []) room c.put_byte-r.ensures
    (λ room. field-then _ _ _ _ _ _ 1 x.validity (4 ∷ 4 ∷ []) (x.quantity ∷ x.limit ∷ []) room c.put_byte-s.ensures
    (λ room. field-then _ _ _ _ _ _ 4 x.quantity (4 ∷ []) (x.limit ∷ []) room c.put_four-t.ensures
    (λ room. field-last _ _ _ _ 4 x.limit c.put_four.ensures)))))
