use Rattle.std.proofs.Common.{rules}
use Rattle.std.proofs.lemmas.Iterator.{YieldsList-from_slice, YieldsList-from_take}
use Rattle.std.proofs.lemmas.Iterator.Consumers.{fold_from_yields_List}
use Rattle.terms.proofs.TableLaws.{last-folded}
use Rattle.terms.specs.Tables.{no_row, later_of, rows, row_of}
use Rattle.terms.proofs.tables.Table.row_of.Goals as goal

pub returns : goal.returns
unfolding row_of
returns c = let a = c.args in
    rw (← last-folded a.price no_row (rows a.self), ← c.none.ensures)
    (fold_from_yields_List _ (later_of a.price) _ _ c.fold.ensures.ran (YieldsList-from_take a.self.count (YieldsList-from_slice a.self.rows (cc)) (cc)) (λ found row r q k. search rules))
