use Rattle.std.proofs.Common.{map}
use Rattle.lists.specs.Put.{Wrote}
use Rattle.writer.specs.Rows.{rows_bytes}
use Rattle.writer.proofs.kinds.put_rows.Given as goal

-- the rows passed are written
abbrev pub invariant-loop-row : goal.invariant-loop-row
invariant-loop-row l = Wrote l.initial.out l.out l.at l.next (rows_bytes (map (λ r. r.now) l.yielded))
