-- Invariant: what is written and what is shared out of the remainder are the shares.
use Rattle.std.proofs.Common.{◌≡◌, ◌++◌, take, drop}
use Rattle.queue.specs.RankNumbers.{along}
use Rattle.fills.specs.Shares.{shares_of}
use Rattle.fills.proofs.shares.share_out.Given as goal

abbrev pub invariant-loop-i : goal.invariant-loop-i
invariant-loop-i l = take l.i l.list ++ shares_of l.rest (along l.lefts (drop l.i l.ranks)) ≡ shares_of l.total (along l.lefts l.ranks)
