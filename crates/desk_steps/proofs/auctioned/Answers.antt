-- The call, its line, and the lines of the trades that it left in the list.
use mathlib.Core.Path.{refl}
use native.Mathlib.Omega.{arith}
use Rattle.trades.specs.Written.{trades_read}
use Rattle.lines.specs.Lengths.{line-length}
use Rattle.desk_steps.specs.Steps.{auction_told}
use Rattle.desk_steps.specs.StepLaws.{wrote-both}
use Rattle.desk_steps.specs.Lent.{auction-told, few-trades}
use Rattle.desk_steps.proofs.auctioned.Goals as goal

pub trade_lines-end-requires : goal.trade_lines-end-requires
trade_lines-end-requires c = let few = few-trades _ _ _ _ c.auction-r.result c.auction-r.ensures in
    (omega (arith, few, c.line_of-behind.ensures.0, c.line_of-behind.auto.out, line-length c.args.place c.auction_line-line.result, c.requires.2), omega (arith, few, c.auction-r.auto.list, c.requires.1))

pub returns : goal.returns
returns c = wrote-both c.args.place _ _ _ _ _ _ (auction_told c.auction-r.result (trades_read c.auction-r.result.result.count c.auction-r.new.list)) _ (omega (arith, c.requires.2))
    (auction-told _ _ _ _ c.auction-r.result c.requires.1 c.auction-r.ensures) refl (rw c.auction_line-line.ensures at c.line_of-behind.ensures) c.trade_lines-end.ensures
