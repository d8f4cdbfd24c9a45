-- A fresh desk is sound, and start, order, quote and delete hand SoundDesk on (A3, K5).
use Rattle.std.specs.Prelude.{ℕ, zero, suc, ◌≤◌, ◌<◌, Bool, false, ◌≡◌, refl, List, length, get_or, set, replicate}
use Rattle.std.proofs.Common.{true≢false, sym, ap, subst, ◌∙◌, arith, leb-false, length-set}
use Rattle.std.proofs.lemmas.List.{length-replicate}
use Rattle.terms.specs.Bounds.{places}
use Rattle.terms.specs.declared.orders.{Entry.Entry}
use Rattle.terms.specs.declared.parameters.{Start.Start}
use Rattle.terms.specs.declared.quote_terms.{QuoteEntry.QuoteEntry}
use Rattle.places.specs.Places.{word_count, lowest_free, is_full, is_short}
use Rattle.places.specs.Words.{zeros-free}
use Rattle.book.specs.declared.{Book.Book}
use Rattle.book.specs.Columns.{cleared}
use Rattle.book.specs.Resting.{place_of, is_of}
use Rattle.controls.specs.declared.phases.{Phase.Phase, Phase.TheVariants.Fresh, Phase.TheVariants.PreOpening, Phase.TheVariants.Day, Phase.TheVariants.Closed}
use Rattle.controls.specs.Phases.{has_started}
use Rattle.refusals.specs.Checks.{first_hit, answered-done, answered-cases}
use Rattle.refusals.specs.Exactly.{clear}
use Rattle.refusals.specs.Rows.{order_rows, quote_rows}
use Rattle.session.specs.declared.{Session.Session}
use Rattle.session.specs.Sound.{legal_price, Sound, fresh-sound}
use Rattle.entries.specs.declared.{Started.Started, Entered.Entered, Deleted.Deleted}
use Rattle.entries.specs.Entry as plain
use Rattle.entries.specs.SoundAfter.{started-sound, entered-sound, deleted-sound, delete-room, accepted}
use Rattle.quotation.specs.declared.{Quoted.Quoted}
use Rattle.quotation.specs.Quote as quotation
use Rattle.quotation.specs.QuoteSound.{quoted-sound, accepted-quote, with-bid}
use Rattle.quotes.specs.Without.{without-sound}
use Rattle.squares.specs.Square.{square_members, square_cells, total, Small, joined}
use Rattle.desk.specs.declared.{Desk.Desk}
use Rattle.desk.specs.Desk.{fresh_desk, known, row_in, is_beyond, entering, with_totals}
use Rattle.desk.specs.Calls.{started, deleted, order_checks, order_refused, order_done, entered, quote_checks, quote_refused, quote_done, quoted}
use Rattle.desk.specs.Sound.{SoundDesk, RowsKnown, traded_most}
use Rattle.desk.specs.EntryCalls.{beyond-is}
use Rattle.desk.specs.RowsKept.{rows-fewer, cleared-fewer, without_fewer, rows-stored, small-set}
use Rattle.desk.specs.MembersKept as kept

-- ---- a fresh desk
zero-at : (n i : ℕ) → ◌≡◌ {A = ℕ} (get_or (replicate n 0) i 0) 0
zero-at zero i = refl
zero-at (suc n) zero = refl
zero-at (suc n) (suc i) = zero-at n i

total-zeros : (n : ℕ) → total (replicate n 0) ≡ 0
total-zeros zero = refl
total-zeros (suc n) = omega (arith, total-zeros n)

pub fresh-desk-sound : SoundDesk fresh_desk
fresh-desk-sound = record {
  inner = fresh-sound;
  members-long = length-replicate {A = ℕ} square_members 0;
  few = omega arith;
  in_order = λ i h. absurd (omega arith);
  rows_long = length-replicate {A = ℕ} places 0;
  rows-small = λ p. rw (zero-at places p) (omega arith);
  rows-known = λ p h taken. absurd (true≢false (sym taken ∙ zeros-free word_count p));
  totals-long = length-replicate {A = ℕ} square_cells 0;
  within = omega (arith, total-zeros square_cells);
}

-- ---- another session and other totals, the members as they are
pub with-totals-sound : (d : Desk) → SoundDesk d → (s : Session) → Sound s → RowsKnown (known d) d.rows s.book
    → (totals : List ℕ) → length totals ≡ square_cells → total totals ≤ traded_most s.phase → SoundDesk (with_totals d s totals)
with-totals-sound d sound s inner rows totals long within = record {
  inner = inner;
  members-long = sound.members-long;
  few = sound.few;
  in_order = sound.in_order;
  rows_long = sound.rows_long;
  rows-small = sound.rows-small;
  rows-known = rows;
  totals-long = long;
  within = within;
}

-- Start hands it on: nothing was traded before it.
pub started-desk-sound : (d : Desk) (x : Start) → SoundDesk d → SoundDesk (started d x).session
unfolding plain.started
started-desk-sound d x sound =
    let s = d.session in
    let (rows, within) = answered-cases (plain.start_checks s x) (plain.start_refused s) (plain.start_done s x)
    (λ (r : Started Session). RowsKnown (known d) d.rows r.session.book × (total d.totals ≤ traded_most r.session.phase))
    (λ n h e. (sound.rows-known, sound.within))
    (λ e. (sound.rows-known, omega (arith, sound.within, nothing_yet s.phase (clear (plain.start_checks s x) tt e 3)))) in
    with-totals-sound d sound (plain.started s x).session (started-sound s x sound.inner) rows d.totals sound.totals-long within
  where
    nothing_yet : (p : Phase) → has_started p ≡ false → traded_most p ≤ 0
    nothing_yet Fresh h = omega arith
    nothing_yet PreOpening h = omega arith
    nothing_yet Day h = absurd (true≢false h)
    nothing_yet Closed h = absurd (true≢false h)

-- Delete hands it on: an order leaves.
pub deleted-desk-sound : (d : Desk) (number member : ℕ) → SoundDesk d → SoundDesk (deleted d number member).session
unfolding plain.deleted
deleted-desk-sound d number member sound =
    let s = d.session in
    let (rows, within) = answered-cases (plain.delete_checks s number member) (plain.delete_refused s) (plain.delete_done s number member)
    (λ (r : Deleted Session). RowsKnown (known d) d.rows r.session.book × (total d.totals ≤ traded_most r.session.phase))
    (λ n h e. (sound.rows-known, sound.within))
    (λ e. (rows-fewer (known d) d.rows (cleared s.book (place_of (is_of number member) s.book)) s.book (cleared-fewer s.book sound.inner.book-sound.sized (place_of (is_of number member) s.book) (delete-room s number member e)) sound.rows-known, sound.within)) in
    with-totals-sound d sound (plain.deleted s number member).session (deleted-sound s number member sound.inner) rows d.totals sound.totals-long within

-- ---- an entry of a member that the square has room for
module _ (d : Desk) (sound : SoundDesk d) (m : ℕ) (room-left : is_beyond d m ≡ false) where
  row_room : row_in d m < square_members
  row_room = leb-false square_members (row_in d m) (beyond-is d sound m ∙ room-left)

  -- the members with it
  after : kept.Entered (known d) (set d.members (row_in d m) m) (entering d m d.session d.rows).count m (row_in d m)
  after = kept.members-entered d.members sound.members-long d.count sound.few sound.in_order m (row_in d m) refl row_room

  -- .. in the order of their first accepted entry
  pub entering-joins : (s : Session) (rows : List ℕ) → known (entering d m s rows) ≡ joined (known d) m
  entering-joins s rows = after.joins

  abbrev known_after : List ℕ
  known_after = known (entering d m d.session d.rows)

  -- the rows that are known stay so
  rows_then : (b : Book) → RowsKnown (known d) d.rows b → RowsKnown known_after d.rows b
  rows_then b rows p h taken =
      let (is, below) = rows p h taken in
      let (same, within) = after.kept (get_or b.member p 0) (rw is at below) in
      (is ∙ sym same, rw is within)

  entering-sound : (s : Session) → Sound s → s.phase ≡ d.session.phase → (rows : List ℕ) → length rows ≡ places → Small rows → RowsKnown known_after rows s.book → SoundDesk (entering d m s rows)
  entering-sound s inner same rows long small rows-known = record {
    inner = inner;
    members-long = length-set d.members (row_in d m) m ∙ sound.members-long;
    few = after.few;
    in_order = after.in_order;
    rows_long = long;
    rows-small = small;
    rows-known = rows-known;
    totals-long = sound.totals-long;
    within = rw same sound.within;
  }

-- Order hands it on: what its plain session does, and its place has its row.
pub entered-desk-sound : (d : Desk) (e : Entry) → SoundDesk d → SoundDesk (entered d e).session
unfolding entered plain.entered
entered-desk-sound d e sound =
    answered-cases (order_checks d e) (order_refused d) (order_done d e) (λ (r : Entered Desk). SoundDesk r.session) (λ n h i. sound) (λ h. done h (clear (order_checks d e) tt h 16))
  where
    done : 0 ≡ first_hit (order_checks d e) → is_beyond d e.member ≡ false → SoundDesk (order_done d e).session
    done h room-left =
        let h' : 0 ≡ first_hit (plain.order_checks d.session e) =
        h ∙ ap (λ (t : Bool). first_hit (order_rows d.session.phase d.session.parameters (plain.control_reference d.session) t d.session.given (is_full d.session.book.taken) e)) room-left in
        let inner : Sound (plain.entered_session d.session e) =
        subst (λ (r : Entered Session). Sound r.session) (sym (answered-done (plain.order_checks d.session e) (plain.order_refused d.session) (plain.order_done d.session e) h')) (entered-sound d.session e sound.inner) in
        let place = lowest_free d.session.book.taken in
        let row = row_in d e.member in
        let here : place < places = (accepted d.session e h').room in
        let members = after d sound e.member room-left in
        entering-sound d sound e.member room-left (plain.entered_session d.session e) inner refl (set d.rows place row)
        (length-set d.rows place row ∙ sound.rows_long)
        (small-set d.rows place row (omega (arith, sound.rows_long)) (row_room d sound e.member room-left) sound.rows-small)
        (rows-stored (known_after d sound e.member room-left) d.rows sound.rows_long d.session.book sound.inner.book-sound.sized
        (rows_then d sound e.member room-left d.session.book sound.rows-known) place here (plain.order_entered d.session e) row members.here members.below)

-- Quote hands it on: the old sides leave, and the places of the new ones have its row.
pub quoted-desk-sound : (d : Desk) (e : QuoteEntry) → SoundDesk d → SoundDesk (quoted d e).session
unfolding quoted quotation.quoted
quoted-desk-sound d e sound =
    answered-cases (quote_checks d e) (quote_refused d) (quote_done d e) (λ (r : Quoted Desk). SoundDesk r.session) (λ n h i. sound) (λ h. done h (clear (quote_checks d e) tt h 16))
  where
    done : 0 ≡ first_hit (quote_checks d e) → is_beyond d e.member ≡ false → SoundDesk (quote_done d e).session
    done h room-left =
        let h' : 0 ≡ first_hit (quotation.quote_checks d.session e) =
        h ∙ ap (λ (t : Bool). first_hit (quote_rows d.session.phase d.session.parameters (plain.control_reference d.session) t d.session.given (is_short (quotation.book_without d.session e).taken) e)) room-left in
        let inner : Sound (quotation.quoted_session d.session e) =
        subst (λ (r : Quoted Session). Sound r.session) (sym (answered-done (quotation.quote_checks d.session e) (quotation.quote_refused d.session) (quotation.quote_done d.session e) h')) (quoted-sound d.session e sound.inner) in
        let ok = accepted-quote d.session e h' in
        let row = row_in d e.member in
        let bid = quotation.bid_place d.session e in
        let ask = quotation.ask_place d.session e in
        let bid-here : bid < places = ok.bid-room in
        let ask-here : ask < places = ok.ask-room in
        let with-bid-long : length (set d.rows bid row) ≡ places = length-set d.rows bid row ∙ sound.rows_long in
        let members = after d sound e.member room-left in
        let all = known_after d sound e.member room-left in
        let left : RowsKnown all d.rows (quotation.book_without d.session e) =
        rows_then d sound e.member room-left (quotation.book_without d.session e)
        (rows-fewer (known d) d.rows (quotation.book_without d.session e) d.session.book (without_fewer (legal_price d.session) d.session.given d.session.book sound.inner.book-sound e.member) sound.rows-known) in
        let with-bid-known : RowsKnown all (set d.rows bid row) (quotation.book_with_bid d.session e) =
        rows-stored all d.rows sound.rows_long (quotation.book_without d.session e) (without-sound (legal_price d.session) d.session.given d.session.book sound.inner.book-sound e.member).sized
        left bid bid-here (quotation.bid_entered d.session e) row members.here members.below in
        entering-sound d sound e.member room-left (quotation.quoted_session d.session e) inner refl (set (set d.rows bid row) ask row)
        (length-set (set d.rows bid row) ask row ∙ with-bid-long)
        (small-set (set d.rows bid row) ask row (omega (arith, with-bid-long)) (row_room d sound e.member room-left)
        (small-set d.rows bid row (omega (arith, sound.rows_long)) (row_room d sound e.member room-left) sound.rows-small))
        (rows-stored all (set d.rows bid row) with-bid-long (quotation.book_with_bid d.session e) (with-bid d.session sound.inner e ok).sized with-bid-known ask ask-here (quotation.ask_entered d.session e) row members.here members.below)
