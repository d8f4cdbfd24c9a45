-- Invariant: the column less the shares that are left is the column asked for.
use Rattle.std.proofs.Common.{◌≡◌}
use Rattle.fills.specs.Shares.{lessened}
use Rattle.fills.proofs.shares.lessen.Given as goal

abbrev pub invariant-loop-rank : goal.invariant-loop-rank
invariant-loop-rank l = lessened l.rank-iterator.a.rest.now l.rank-iterator.b.rest.now l.lefts ≡ lessened l.ranks l.shares l.initial.lefts
