-- Price steps by band (02 K6): one step for all prices is one row, a price has one row, and a start is refused exactly when its table, its count or a field
-- is bad. A header of kind 6 is judged as soon as its row count is there, and not before.
use Rattle.std.specs.Prelude.{ℕ, suc, ◌+◌, ◌*◌, ◌/◌, ◌%◌, ◌≤◌, ◌<◌, Bool, true, false, not, ◌&&◌, ◌↔◌, ◌≢◌, ◌≡◌, refl, List, [], ◌∷◌, ◌++◌, map, T, leb, length, get_or}
use Rattle.std.proofs.Common.{sym, ap, ◌∙◌, arith, leb→le}
use Rattle.lists.specs.Tests.{and_both}
use Rattle.terms.specs.Bounds.{min_price}
use Rattle.terms.specs.Kinds.{is_price, is_step, is_multiple, is_factor, is_threshold, is_order_value}
use Rattle.terms.specs.Tables.{rows, is_table, row_of, on_step, one_row}
use Rattle.terms.specs.TableLaws.{LastIn}
use Rattle.terms.proofs.TableLaws.{last-is-one, row-found, rows-counted, one-row-table, one-row-step}
use Rattle.terms.specs.Parameters.{parameters_from, start_with, is_start}
use Rattle.terms.specs.Made.{ParametersHold}
use Rattle.terms.proofs.Made.{parameters-hold, hold-together}
use Rattle.terms.specs.declared.kinds.{Price.Price}
use Rattle.terms.specs.declared.orders.{Limit.TheVariants.At}
use Rattle.terms.specs.declared.parameters.{Start.Start, OneStep.OneStep}
use Rattle.terms.specs.declared.tables.{Row.Row, Table.Table}
use Rattle.controls.specs.Controls.{off_step}
use Rattle.session.specs.declared.{Session.Session}
use Rattle.session.specs.State.{fresh_session}
use Rattle.entries.specs.Entry.{started}
use Rattle.records.specs.declared.{kinds.Record.Record, Piece.Piece}
use Rattle.records.specs.Fields.{number, header_length, length_bound, counted_length}
use Rattle.records.specs.Lengths.{bands-length}
use Rattle.records.specs.Bytes.{numbers_of}
use Rattle.records.specs.Walk.{length_at, kind_at}
use Rattle.records.specs.Headers.{split, bands-short, bands-open, bands-misfit}
use Rattle.records.specs.Pieces.{piece_at, header_piece, piece-header}
use Rattle.transcript.specs.Transcript.{step, step_lines, lines_from}
use Rattle.demands.specs.Answers.{start-exactly}
use Rattle.demands.specs.Sequences.{Call, run, reached-is-sound}

-- a record of kind 1 as the record of kind 6 with the one row (1, s); any other as it is
abbrev pub in_bands : Record → Record
in_bands (Record.Start x) = Record.Bands (start_with x)
in_bands (Record.Order e) = Record.Order e
in_bands (Record.Delete d) = Record.Delete d
in_bands (Record.Auction which) = Record.Auction which
in_bands (Record.Quote q) = Record.Quote q
in_bands (Record.Bands x) = Record.Bands x

-- its numbers in the file: one row, its lowest price and step, and the other fields
pub one-row-numbers : (x : OneStep) → numbers_of (in_bands (Record.Start x)) ≡ 1 ∷ 1 ∷ x.step ∷ x.reference ∷ x.factor ∷ x.threshold ∷ x.most ∷ []
one-row-numbers x = refl

-- K6a. Kind 1 with step s answers and goes on exactly as kind 6 with the one row (1, s): the line, the trades and the session after it ..
pub one-row-answers : (s : Session) (r : Record) → step s (in_bands r) ≡ step s r
one-row-answers s (Record.Start x) = refl
one-row-answers s (Record.Order e) = refl
one-row-answers s (Record.Delete d) = refl
one-row-answers s (Record.Auction which) = refl
one-row-answers s (Record.Quote q) = refl
one-row-answers s (Record.Bands x) = refl

-- .. and so the lines of all records, one after the other
pub one-row-goes-on : (s : Session) (count : ℕ) (rs : List Record) (faulty : Bool) → lines_from s count (map in_bands rs) faulty ≡ lines_from s count rs faulty
unfolding lines_from
one-row-goes-on s count [] faulty = refl
one-row-goes-on s count (r ∷ rs) faulty =
    rw (one-row-answers s r) (ap (λ (text : List ℕ). step_lines (suc count) (step s r) ++ text) (one-row-goes-on (step s r).session (suc count) rs faulty))

-- K6a. What kind 1 means is what 01 says of its one step: the fields' ranges with the reference price a multiple of the step, and limits that are.
pub one-step-in-range : (x : OneStep)
    → is_start (start_with x)
    ≡ is_step x.step && (is_price x.reference && is_multiple x.step x.reference) && is_factor x.factor && is_threshold x.threshold && is_order_value x.most
one-step-in-range x =
    rw (one-row-table x.step)
    (ap (λ (b : Bool). is_step x.step && b && is_factor x.factor && is_threshold x.threshold && is_order_value x.most) (go (is_price x.reference) refl)) where
      least : T (is_price x.reference) → min_price ≤ x.reference
      least h = leb→le min_price x.reference (and_both (leb min_price x.reference) _ h).0

      go : (b : Bool) → is_price x.reference ≡ b → is_price x.reference && on_step (one_row x.step) x.reference ≡ is_price x.reference && is_multiple x.step x.reference
      go true e = rw (e, one-row-step x.step x.reference (least (rw e tt)))
      go false e = rw e

pub one-step-limits : (step : ℕ) (p : Price) → min_price ≤ p.0 → off_step (one_row step) (At p) ≡ not (is_multiple step p.0)
one-step-limits step p h = rw (one-row-step step p.0 h)

-- K6b. The row of a price exists, is one, and is the last that doesn't begin above it.
pub record OneRowOf (t : Table) (price : ℕ) : Type 0 where
  pub as_many : length (rows t) ≡ t.count
  pub last : LastIn price (rows t) (row_of t price)
  pub only : (r : Row) (l : LastIn price (rows t) r) → (l.at ≡ last.at) × (r ≡ row_of t price)

-- .. of every table, so of that of every session that can be reached
pub one-row-of : (t : Table) → T (is_table t) → (price : ℕ) → min_price ≤ price → OneRowOf t price
one-row-of t holds price h =
    let found = row-found t holds price h in
    record {
      as_many = rows-counted t holds;
      last = found;
      only = λ r l. let e = last-is-one price (rows t) l found in (e, sym l.is ∙ rw e found.is);
    }

pub one-row-reached : (cs : List Call) (price : ℕ) → min_price ≤ price → OneRowOf (run fresh_session cs).parameters.table price
one-row-reached cs price h = one-row-of _ (parameters-hold (run fresh_session cs).parameters (reached-is-sound cs).parameters-hold).table-holds price h

not-both : (b : Bool) → T (not b) → T b → ⊥
not-both true n h = n
not-both false n h = h

fails : (b : Bool) → (T b → ⊥) → T (not b)
fails true n = n tt
fails false n = tt

-- K6c. A start answers 1 exactly when its table, the count of its rows or a field is bad.
pub start-refused : (s : Session) (x : Start) → ((started s x).answer ≡ 1) ↔ (ParametersHold (parameters_from x) → ⊥)
start-refused s x =
    let (to, from) = (start-exactly s x).refused 1 (omega arith) in
    ((λ e good. not-both (is_start x) (to e).0 (hold-together (parameters_from x) good)), (λ bad. from (fails (is_start x) (λ h. bad (parameters-hold (parameters_from x) h)), tt)))

-- ---- a header of kind 6, once its four bytes are there
module _ (bytes : List ℕ) (place : ℕ) (small : (i : ℕ) → get_or bytes i 0 < 256) (whole : place + header_length ≤ length bytes) (six : kind_at bytes place ≡ 6) where
  halves : (number bytes place 4 / length_bound ≡ 6) × (number bytes place 4 % length_bound ≡ length_at bytes place)
  halves = let h = split bytes place small refl in (sym h.0 ∙ six, sym h.1)

  -- K6. It waits for its row count, where its length has room for one ..
  pub waits-for-count : counted_length ≤ length_at bytes place → length bytes < place + counted_length → piece_at bytes place false ≡ Piece.Waits
  waits-for-count long short =
      sym (piece-header bytes place false whole) ∙ ap (header_piece false) (sym (bands-open bytes place small refl halves.0 (omega (arith, halves.1, long)) (omega (arith, short))))

  -- .. and is judged when that is there: a length that does not fit it is a fault,
  pub misfit-is-a-fault : place + counted_length ≤ length bytes → length_at bytes place ≢ 22 + 8 * number bytes (place + header_length) 2
      → (ended : Bool) → piece_at bytes place ended ≡ Piece.Fault
  misfit-is-a-fault there other ended =
      sym (piece-header bytes place ended whole)
      ∙ ap (header_piece ended) (sym (bands-misfit bytes place small refl halves.0 (omega (arith, there)) (λ e. other (sym halves.1 ∙ e ∙ bands-length (number bytes (place + header_length) 2)))))

  -- .. as one is that has no room for it, at once
  pub no-count-is-a-fault : length_at bytes place < counted_length → (ended : Bool) → piece_at bytes place ended ≡ Piece.Fault
  no-count-is-a-fault short ended =
      sym (piece-header bytes place ended whole) ∙ ap (header_piece ended) (sym (bands-short bytes place small refl halves.0 (omega (arith, halves.1, short))))
