use Rattle.std.proofs.Common.{arith, length, length-take, ◌<◌, ◌/◌, List, ℕ, [], ap, ◌∙◌, subst, take, get_or}
use Rattle.trades.specs.declared.Trade.{Trade}
use Rattle.lists.specs.Put.{Wrote}
use Rattle.lines.specs.TradeLines.{trades-within, trades-next, chunk-trade, trade_in}
use Rattle.lines.specs.OneByOne.{all_none}
use Rattle.lines.specs.Line.{trade_line}
use Rattle.lines.proofs.line_writer.trade_lines.Goals as goal

pub loop-buy-init : goal.loop-buy-init
loop-buy-init c = all_none trade_line c.args.out.now c.args.at (omega arith)

pub trade_line-end-requires : goal.trade_line-end-requires
trade_line-end-requires c = let l = c.loop-buy in
    omega (arith, length-take c.args.count c.as_chunks.result.0.now, trades-within c.args.out.now c.args.list.now l.out c.args.at l.end l.buy-index l.invariant)

pub loop-buy-preserved : goal.loop-buy-preserved
loop-buy-preserved c = let w = c.trade_line-end in
    let l = c.loop-buy in
    let list = c.args.list.now in
    let few : l.buy-index < length list / 4 = omega (arith, length-take c.args.count c.as_chunks.result.0.now, c.as_chunks.ensures.front_len) in
    let same = ap (λ (xs : List (List ℕ)). trade_in (get_or (take c.args.count xs) l.buy-index [])) c.as_chunks.ensures.front ∙ chunk-trade c.args.count (length list / 4) l.buy-index list (omega (arith, length-take c.args.count c.as_chunks.result.0.now)) few in
    trades-next c.args.out.now c.args.list.now l.out w.new.out c.args.at l.end w.result l.buy-index (omega arith) (omega (arith, length-take c.args.count c.as_chunks.result.0.now)) w.auto.out l.invariant (subst (λ (t : Trade). Wrote l.out w.new.out l.end w.result (trade_line t)) same w.ensures)
