-- Invariant: the cells with the trades that are left added are the cells asked for, and nothing is lost on the way.
use Rattle.std.proofs.Common.{ℕ, ◌+◌, ◌≡◌, List, map, length, get_or, drop}
use Rattle.trades.specs.declared.{Trade.Trade}
use Rattle.trades.specs.Trades.{volume}
use Rattle.squares.specs.Square.{square_cells, total, added_to}
use Rattle.squares.proofs.add_trades.Given as goal

-- a trade of its four numbers
abbrev pub of_four : List ℕ → Trade
of_four c = record { buy = get_or c 0 0; sell = get_or c 1 0; quantity = get_or c 2 0 }

abbrev pub invariant-loop-buy : goal.invariant-loop-buy
invariant-loop-buy l = (length l.totals ≡ square_cells) × (total l.totals + volume (drop l.buy-index (map of_four l.trades)) ≡ total l.initial.totals + volume (map of_four l.trades)) × (added_to (λ p. get_or l.rows p 0) (drop l.buy-index (map of_four l.trades)) l.totals ≡ added_to (λ p. get_or l.rows p 0) (map of_four l.trades) l.initial.totals)
