use Rattle.std.proofs.Common.{◌≡◌, ◌+◌, ◌&&◌, drop}
use Rattle.terms.specs.Tables.{rows_follow}
use Rattle.terms.proofs.tables.Table.holds.Given as goal

-- the rows looked at, and those to come
abbrev pub invariant-loop-i : goal.invariant-loop-i
invariant-loop-i l = l.rise && rows_follow (l.i + 1) l.count l.before (drop l.i l.row-items) ≡ rows_follow 1 l.count 0 l.row-items
