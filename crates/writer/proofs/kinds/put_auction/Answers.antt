use Rattle.records.specs.declared.{kinds.Record.Record}
use Rattle.writer.specs.Fields.{header-then, field-last}
use Rattle.writer.proofs.kinds.put_auction.Goals as goal

pub returns : goal.returns
returns c = let x = c.args.which in
    header-then _ _ _ _ _ _ (Record.Auction x) c.requires c.put_four-p.ensures
    (λ room. field-last _ _ _ _ 1 x c.put_byte.ensures)
