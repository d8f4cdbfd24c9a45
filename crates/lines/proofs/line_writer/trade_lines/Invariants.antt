-- Invariant: `WroteTrades`, the trades so far are written.
use Rattle.lines.specs.TradeLines.{WroteTrades}
use Rattle.lines.proofs.line_writer.trade_lines.Given as goal

abbrev pub invariant-loop-buy : goal.invariant-loop-buy
invariant-loop-buy l = WroteTrades l.initial.out l.at l.list l.out l.end l.buy-index
