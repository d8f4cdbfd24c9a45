use Rattle.std.specs.Prelude.{T}
use mathlib.Core.List.{[], ◌∷◌}
use Rattle.records.specs.declared.{kinds.Record.Record}
use Rattle.records.specs.Fields.{row_widths}
use Rattle.records.specs.Bytes.{length_of}
use Rattle.records.specs.Lengths.{bands-length}
use Rattle.records.specs.RoundTrip.{length-bounds}
use Rattle.writer.specs.Fields.{header-then, field-then, field-last}
use Rattle.terms.specs.Parameters.{is_start, parameters_from}
use Rattle.terms.specs.Tables.{is_table, rows}
use Rattle.terms.proofs.TableLaws.{rows-counted, table-parts}
use Rattle.terms.proofs.Made.{parameters-hold}
use Rattle.terms.specs.declared.parameters.{Start.Start}
use Rattle.writer.specs.Rows.{rows-length, rows_then}
use native.Mathlib.Omega.{arith}
use Rattle.writer.proofs.kinds.put_bands.Goals as goal

-- its table is one
holds : (x : Start) → T (is_start x) → T (is_table x.table)
holds x h = (parameters-hold (parameters_from x) h).table-holds

pub overflow_cast-bands_length : goal.overflow_cast-bands_length
overflow_cast-bands_length c = let l = length-bounds (Record.Bands c.args.start) c.requires.1 in
    omega (arith, c.bands_length.ensures, l.1)

pub put_rows-s-requires : goal.put_rows-s-requires
put_rows-s-requires c = let n = c.args.start.table.count in
    omega (arith, c.requires.0, bands-length n)

pub put_later-requires : goal.put_later-requires
put_later-requires c = let n = c.args.start.table.count in
    let t = c.args.start.table in
    omega (arith, c.requires.0, bands-length n, rows-length (rows t), rows-counted t (holds c.args.start c.requires.1))

pub returns : goal.returns
returns c = let x = c.args.start in
    let t = x.table in
    let parts = table-parts t (holds x c.requires.1) in
    header-then _ _ _ _ _ _ (Record.Bands x) c.requires.0
    (field-then _ _ _ _ _ _ 2 (length_of (Record.Bands x)) (2 ∷ []) (6 ∷ []) (omega (arith, c.requires.0, bands-length t.count))
    (rw c.bands_length.ensures at c.put_two-p.ensures) (λ room. field-last _ _ _ _ 2 6 c.put_two-q.ensures))
    (λ room. field-then _ _ _ _ _ _ 2 t.count (row_widths t.count) _ room c.put_two-r.ensures
    (λ room. rows_then _ _ _ _ _ _ t x.reference x.factor x.threshold x.most parts.placed parts.counted (omega (arith, room))
    c.put_rows-s.ensures c.put_later.ensures))
