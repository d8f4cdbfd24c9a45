use mathlib.Core.List.{[], ◌∷◌}
use Rattle.records.specs.declared.{kinds.Record.Record}
use Rattle.writer.specs.Fields.{header-then, field-then, field-last}
use Rattle.writer.proofs.kinds.put_quote.Goals as goal

pub returns : goal.returns
returns c = let x = c.args.entry in
    let bid = x.bid in
    let ask = x.ask in
    header-then _ _ _ _ _ _ (Record.Quote x) c.requires c.put_four-p.ensures
    (λ room. field-then _ _ _ _ _ _ 2 x.member (4 ∷ 4 ∷ 4 ∷ 4 ∷ []) (bid.quantity ∷ bid.limit ∷ ask.quantity ∷ ask.limit ∷ []) room c.put_two-q.ensures
    (λ room. field-then _ _ _ _ _ _ 4 bid.quantity (4 ∷ 4 ∷ 4 ∷ []) (bid.limit ∷ ask.quantity ∷ ask.limit ∷ []) room c.put_four-r.ensures
    (λ room. field-then _ _ _ _ _ _ 4 bid.limit (4 ∷ 4 ∷ []) (ask.quantity ∷ ask.limit ∷ []) room c.put_four-s.ensures
    (λ room. field-then _ _ _ _ _ _ 4 ask.quantity (4 ∷ []) (ask.limit ∷ []) room c.put_four-t.ensures
    (λ room. field-last _ _ _ _ 4 ask.limit c.put_four.ensures)))))
