use Prim.Native.Nat.{ℕ, ◌+◌, ◌-◌, ◌≤◌, ◌<◌}
use mathlib.Core.Path.{◌≡◌, refl, sym, ap, ◌∙◌}
use mathlib.Core.List.{List}
use lib.ListN.{length}
use Rattle.terms.specs.Bounds.{places}
use Rattle.book.specs.Hints.{sound-numbered}
use Rattle.book.specs.declared.Book.{Book}
use Rattle.session.specs.declared.{Session.Session}
use Rattle.session.specs.Sound.{legal_price}
use Rattle.session.specs.State.{with_book}
use Rattle.lines.specs.Line.{numbered_line, done_line, quote_line}
use Rattle.entries.specs.Changes.{changed}
use Rattle.quotation.specs.QuoteCall.{requoted_in}
use Rattle.records.specs.BandsRead.{BandsAt, record_in}
use Rattle.transcript.specs.declared.{Stepped.Stepped, Doing.Doing}
use Rattle.transcript.specs.Transcript.{step}
use Rattle.transcript.specs.Steps.{record_room, WroteStep, wrote-alone, quiet, does-found, bands-told, wrote_as}
use Rattle.transcript.specs.TellLaws.{next-record}
use Rattle.transcript.specs.InPlace.{quotes-known, written-hinted, requoted-hinted}
use Rattle.transcript.specs.Underway.{Underway, underway-first, underway-next, underway-stop}
use native.Mathlib.Omega.{arith}
use Rattle.transcript.proofs.tell.records_told.Goals as goal
use Rattle.transcript.proofs.tell.records_told.Goals.{After-doing_of-doing, In-Done, In-Quoted, In-Record}

-- the record that is told next brings the place further, and there is room for its lines
onward : (c : In-Record) → let l = c.loop-record in
    (l.place < c.in-Record.behind)
    × (c.in-Record.behind ≤ length c.args.bytes.now)
    × (record_room ≤ length l.out - l.at)
onward c = let a = c.args in
    let l = c.loop-record in
    let f = next-record a.bytes.now l.place a.ended (length l.out - l.at) (sym c.next_told-next.ensures ∙ c.in-Record.is) in
    (f.0, f.1, f.2)

-- a record whose lines are written
next : (c : In-Record) → {done : Stepped Session} {out : List ℕ} → let l = c.loop-record in let a = c.args in
    WroteStep (l.count + 1) l.out out l.at done (step l.present c.in-Record.record)
    → length out ≡ length l.out
    → Underway a.ended a.bytes.now a.out.now a.session a.answered done.session (l.count + 1) c.in-Record.behind done.at out
next c w long = let a = c.args in
    underway-next a.ended a.bytes.now a.out.now a.session a.answered c.loop-record.invariant.0 (sym c.in-Record.is ∙ c.next_told-next.ensures) w long

-- a start by bands stands at the place, and is what is read there
stands : (c : After-doing_of-doing) → c.doing_of-doing.result ≡ Doing.Bands → let l = c.loop-record in let bytes = c.args.bytes.now in
    BandsAt bytes l.place × (c.in-Record.record ≡ record_in bytes l.place)
stands c e = let l = c.loop-record in
    let a = c.args in
    let does = does-found l.present l.invariant.0.sound c.in-Record.record (sym e ∙ c.doing_of-doing.ensures) in
    let there = (next-record a.bytes.now l.place a.ended (length l.out - l.at) (sym c.next_told-next.ensures ∙ c.in-Record.is)).3 in
    bands-told a.bytes.now l.place c.in-Record.behind there does

-- a change is at a place
in-book : (c : In-Done) → c.in-Done.c.place < places
in-book c = (does-found c.loop-record.present c.loop-record.invariant.0.sound c.in-Record.record (sym c.in-Done.is ∙ c.doing_of-doing.ensures)).1

pub loop-record-init : goal.loop-record-init
loop-record-init c = let a = c.args in
    (underway-first a.ended a.bytes.now a.out.now a.session a.answered c.requires.0, c.requires.1, refl, c.quote_hint_all.ensures, c.quote_hint_all-2.ensures)

pub overflow_add-count : goal.overflow_add-count
overflow_add-count c = let f = onward (goal.at.overflow_add-count c).In-Record in
    omega (arith, c.requires.2, c.loop-record.invariant.0.counted, f.0, f.1)

pub doing_of-doing-requires : goal.doing_of-doing-requires
doing_of-doing-requires c = let l = c.loop-record in
    let s = l.present in
    let sound = l.invariant.0.sound in
    (sound-numbered (legal_price s) s.given s.book sound.book-sound, quotes-known s sound l.invariant.3 l.invariant.4)

pub loop-record-smaller-in-Refused : goal.loop-record-smaller-in-Refused
loop-record-smaller-in-Refused c = let f = onward (goal.at.loop-record-smaller-in-Refused c).In-Record in omega (arith, f.0, f.1)

pub loop-record-preserved-in-Refused : goal.loop-record-preserved-in-Refused
loop-record-preserved-in-Refused c = let l = c.loop-record in
    let e = does-found l.present l.invariant.0.sound c.in-Record.record (sym c.in-Refused.is ∙ c.doing_of-doing.ensures) in (
      next (goal.at.loop-record-preserved-in-Refused c).In-Record
          (wrote-alone (l.count + 1) _ _ _ (record { session = l.present; at = c.line_of-at.result }) (quiet l.present (numbered_line c.in-Refused.word c.in-Refused.answer 0)) _ e refl refl (rw c.numbered.ensures at c.line_of-at.ensures))
          c.line_of-at.auto.out,
      l.invariant.1,
      l.invariant.2,
      l.invariant.3,
      l.invariant.4,
    )

pub write-requires : goal.write-requires
write-requires c = in-book (goal.at.write-requires c).In-Done

pub hint-requires : goal.hint-requires
hint-requires c = in-book (goal.at.hint-requires c).In-Done

pub loop-record-smaller-in-Done : goal.loop-record-smaller-in-Done
loop-record-smaller-in-Done c = let f = onward (goal.at.loop-record-smaller-in-Done c).In-Record in omega (arith, f.0, f.1)

pub loop-record-preserved-in-Done : goal.loop-record-preserved-in-Done
loop-record-preserved-in-Done c = let l = c.loop-record in
    let e = does-found l.present l.invariant.0.sound c.in-Record.record (sym c.in-Done.is ∙ c.doing_of-doing.ensures) in
    let wrote = c.write.ensures in (
      next (goal.at.loop-record-preserved-in-Done c).In-Record
          (wrote-alone (l.count + 1) _ _ _ (record { session = _; at = c.done_line-at.result }) (quiet (changed l.present c.in-Done.c) (done_line c.in-Done.word c.in-Done.c.given)) _ e.0 refl
          (ap (λ (b : Book). with_book l.present c.in-Done.c.given b) wrote)
          c.done_line-at.ensures)
          c.done_line-at.auto.out,
      l.invariant.1,
      l.invariant.2,
      written-hinted l.present.book l.invariant.3 _ _ _ e.2 wrote,
      written-hinted l.present.book l.invariant.4 _ _ _ e.2 wrote,
    )

-- a quote's new sides are at places
in-book-both : (c : In-Quoted) → let change = c.in-Quoted.c in (change.fresh.bid < places) × (change.fresh.ask < places)
in-book-both c = (does-found c.loop-record.present c.loop-record.invariant.0.sound c.in-Record.record (sym c.in-Quoted.is ∙ c.doing_of-doing.ensures)).1

pub requote-requires : goal.requote-requires
requote-requires c = in-book-both (goal.at.requote-requires c).In-Quoted

pub hint-requires-in-Quoted : goal.hint-requires-in-Quoted
hint-requires-in-Quoted c = (in-book-both (goal.at.hint-requires-in-Quoted c).In-Quoted).0

pub hint-requires-in-Quoted-2 : goal.hint-requires-in-Quoted-2
hint-requires-in-Quoted-2 c = (in-book-both (goal.at.hint-requires-in-Quoted-2 c).In-Quoted).1

pub quote_hint-requires : goal.quote_hint-requires
quote_hint-requires c = (in-book-both (goal.at.quote_hint-requires c).In-Quoted).0

pub quote_hint-requires-in-Quoted : goal.quote_hint-requires-in-Quoted
quote_hint-requires-in-Quoted c = (in-book-both (goal.at.quote_hint-requires-in-Quoted c).In-Quoted).1

pub loop-record-smaller-in-Quoted : goal.loop-record-smaller-in-Quoted
loop-record-smaller-in-Quoted c = let f = onward (goal.at.loop-record-smaller-in-Quoted c).In-Record in omega (arith, f.0, f.1)

pub loop-record-preserved-in-Quoted : goal.loop-record-preserved-in-Quoted
loop-record-preserved-in-Quoted c = let l = c.loop-record in
    let change = c.in-Quoted.c in
    let e = does-found l.present l.invariant.0.sound c.in-Record.record (sym c.in-Quoted.is ∙ c.doing_of-doing.ensures) in
    let long = l.invariant.0.sound.book-sound.sized.member in
    let wrote = c.requote.ensures in (
      next (goal.at.loop-record-preserved-in-Quoted c).In-Record
          (wrote-alone (l.count + 1) _ _ _ (record { session = _; at = c.quote_line-at.result }) (quiet (requoted_in l.present change) (quote_line change.bid.number change.ask.number)) _ e.0 refl
          (ap (λ (b : Book). with_book l.present change.given b) wrote)
          c.quote_line-at.ensures)
          c.quote_line-at.auto.out,
      l.invariant.1,
      l.invariant.2,
      requoted-hinted l.present.book l.invariant.3 long change e.2 _ wrote c.quote_hint.ensures,
      requoted-hinted l.present.book l.invariant.4 long change e.2 _ wrote c.quote_hint-in-Quoted.ensures,
    )

pub loop-record-smaller-in-Start : goal.loop-record-smaller-in-Start
loop-record-smaller-in-Start c = let f = onward (goal.at.loop-record-smaller-in-Start c).In-Record in omega (arith, f.0, f.1)

pub loop-record-preserved-in-Start : goal.loop-record-preserved-in-Start
loop-record-preserved-in-Start c = let l = c.loop-record in
    let e = does-found l.present l.invariant.0.sound c.in-Record.record (sym c.in-Start.is ∙ c.doing_of-doing.ensures) in (
      next (goal.at.loop-record-preserved-in-Start c).In-Record (wrote_as l.present (l.count + 1) l.at l.out _ c.start_written-r.result e c.start_written-r.ensures) c.start_written-r.auto.out,
      l.invariant.1,
      l.invariant.2,
      c.quote_hint_all-in-Start.ensures,
      c.quote_hint_all-in-Start-2.ensures,
    )

pub loop-record-smaller-in-Auction : goal.loop-record-smaller-in-Auction
loop-record-smaller-in-Auction c = let f = onward (goal.at.loop-record-smaller-in-Auction c).In-Record in omega (arith, f.0, f.1)

pub loop-record-preserved-in-Auction : goal.loop-record-preserved-in-Auction
loop-record-preserved-in-Auction c = let l = c.loop-record in
    let e = does-found l.present l.invariant.0.sound c.in-Record.record (sym c.in-Auction.is ∙ c.doing_of-doing.ensures) in (
      next (goal.at.loop-record-preserved-in-Auction c).In-Record (wrote_as l.present (l.count + 1) l.at l.out _ c.auction_written-r.result e c.auction_written-r.ensures) c.auction_written-r.auto.out,
      c.auction_written-r.auto.list ∙ l.invariant.1,
      c.auction_written-r.auto.list ∙ l.invariant.2,
      c.quote_hint_all-in-Auction.ensures,
      c.quote_hint_all-in-Auction-2.ensures,
    )

pub bands_written-r-requires : goal.bands_written-r-requires
bands_written-r-requires c = let f = onward (goal.at.bands_written-r-requires c).In-Record in
    let l = c.loop-record in
    (l.invariant.0.sound, omega (arith, f.2, l.invariant.0.at-within), (stands (goal.at.bands_written-r-requires c).After-doing_of-doing c.in-Bands.is).0)

pub loop-record-smaller : goal.loop-record-smaller
loop-record-smaller c = let f = onward (goal.at.loop-record-smaller c).In-Record in omega (arith, f.0, f.1)

pub loop-record-preserved : goal.loop-record-preserved
loop-record-preserved c = let l = c.loop-record in
    let e = (stands (goal.at.loop-record-preserved c).After-doing_of-doing c.in-Bands.is).1 in (
      next (goal.at.loop-record-preserved c).In-Record (wrote_as l.present (l.count + 1) l.at l.out _ c.bands_written-r.result e c.bands_written-r.ensures) c.bands_written-r.auto.out,
      l.invariant.1,
      l.invariant.2,
      c.quote_hint_all-in-Bands.ensures,
      c.quote_hint_all-in-Bands-2.ensures,
    )

pub returns-in-Stop : goal.returns-in-Stop
returns-in-Stop c = let u = c.loop-record.invariant.0 in
    let a = c.args in
    (underway-stop a.ended a.bytes.now a.out.now a.session a.answered u (sym c.in-Stop.is ∙ c.next_told-next.ensures), omega (arith, u.as_long, u.at-within), u.only-text)
