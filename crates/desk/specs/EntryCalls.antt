-- Order and quote of a desk from what their code learns on the way: the effect decides, and an accepted entry is no thirty-third member's.
use Rattle.std.specs.Prelude.{ℕ, ◌+◌, ◌<◌, false, ◌≡◌, refl, List, leb, set, length, Result, Ok, Err}
use Rattle.std.proofs.Common.{ap, ◌∙◌, leb-false, length-take-le, arith}
use Rattle.terms.specs.Bounds.{places}
use Rattle.terms.specs.Orders.{order_from}
use Rattle.terms.specs.Quotes.{quote_from}
use Rattle.terms.specs.declared.orders.{Entry.Entry}
use Rattle.terms.specs.declared.quote_terms.{QuoteEntry.QuoteEntry}
use Rattle.places.specs.Places.{is_short, marked}
use Rattle.book.specs.Columns.{stored}
use Rattle.refusals.specs.Checks.{answered-map}
use Rattle.effects.specs.declared.{Change.Change}
use Rattle.effects.specs.Effects.{order_change, order_effect, order-not-beyond}
use Rattle.entries.specs.declared.{Entered.Entered}
use Rattle.entries.specs.Entry as plain
use Rattle.entries.specs.Changes.{changed}
use Rattle.quotes.specs.Quotes.{quote_places}
use Rattle.effects.specs.declared.quoting.{QuoteChange.QuoteChange}
use Rattle.effects.specs.QuoteEffects.{quote_change, quote_effect, quote-not-beyond}
use Rattle.quotation.specs.declared.{Quoted.Quoted}
use Rattle.quotation.specs.Quote.{book_without}
use Rattle.quotation.specs.QuoteCall.{requoted_in, old_in, old-places, fresh-is, requoted-is, by-places, placed}
use Rattle.session.specs.declared.{Session.Session}
use Rattle.squares.specs.Square.{square_members}
use Rattle.squares.specs.Rows.{beyond-by-row}
use Rattle.desk.specs.declared.{Desk.Desk}
use Rattle.desk.specs.Desk.{known, row_in, is_beyond, count_with, entering}
use Rattle.desk.specs.Calls.{order_checks, order_refused, entered, quote_refused, quote_done, quoted}
use Rattle.desk.specs.Sound.{SoundDesk}

-- as many members as counted
pub known-length : (d : Desk) → SoundDesk d → length (known d) ≡ d.count
known-length d sound = length-take-le d.count d.members (omega (arith, sound.few, sound.members-long))

-- a thirty-third member's row is behind the last of the square
pub beyond-is : (d : Desk) → SoundDesk d → (member : ℕ) → leb square_members (row_in d member) ≡ is_beyond d member
beyond-is d sound member =
    let long = known-length d sound in
    beyond-by-row (known d) member (omega (arith, long, sound.few)) ∙ rw long

-- a desk whose parts are stored one by one, the member's row among them
pub entering-as : (d : Desk) (member : ℕ) {session session' : Session} {row count : ℕ} {rows : List ℕ} (rows' : ℕ → List ℕ) → session ≡ session' → row ≡ row_in d member → rows ≡ rows' row
    → count ≡ count_with d.count row
    → ◌≡◌ {A = Desk} (record { session = session; members = set d.members row member; count = count; rows = rows; totals = d.totals }) (entering d member session' (rows' (row_in d member)))
entering-as d member rows' s r rows count = rw (s, rows, count, r)

-- what an order changes in a desk
abbrev pub order_in : Desk → Entry → Result Change ℕ
order_in d e =
    let s = d.session in
    order_effect s.phase s.parameters (plain.control_reference s) (is_beyond d e.member) s.given s.book.taken e

-- what the call returns, by the effect
abbrev pub entered_by : Desk → Entry → Result Change ℕ → Entered Desk
entered_by d e (Err n) = order_refused d n
entered_by d e (Ok c) = record { answer = 0; number = c.given; session = entering d e.member (changed d.session c) (set d.rows c.place (row_in d e.member)) }

pub entered_by_lem : (d : Desk) (e : Entry) → entered_by d e (order_in d e) ≡ entered d e
unfolding entered order_effect stored marked
entered_by_lem d e = answered-map (entered_by d e) (order_checks d e) Err (Ok (order_change (d.session.given + 1) d.session.book.taken (order_from e)))

-- an accepted one has a row of the square
pub order_row : (d : Desk) → SoundDesk d → (e : Entry) {c : Change} → order_in d e ≡ Ok c → row_in d e.member < square_members
order_row d sound e h =
    let s = d.session in
    leb-false square_members (row_in d e.member) (beyond-is d sound e.member ∙ order-not-beyond s.phase s.parameters (plain.control_reference s) (is_beyond d e.member) s.given s.book.taken e h)

-- what a quote changes in a desk
abbrev pub quote_in : Desk → QuoteEntry → Result QuoteChange ℕ
quote_in d e =
    let s = d.session in
    quote_effect s.phase s.parameters (plain.control_reference s) (is_beyond d e.member) s.given s.book.taken (old_in s e.member) e

abbrev pub quoted_by : Desk → QuoteEntry → Result QuoteChange ℕ → Quoted Desk
quoted_by d e (Err n) = quote_refused d n
quoted_by d e (Ok c) = record {
  answer = 0;
  bid = c.bid.number;
  ask = c.ask.number;
  session = entering d e.member (requoted_in d.session c) (set (set d.rows c.fresh.bid (row_in d e.member)) c.fresh.ask (row_in d e.member));
}

pub quoted-by : (d : Desk) → SoundDesk d → (e : QuoteEntry) → quoted_by d e (quote_in d e) ≡ quoted d e
unfolding quoted
quoted-by d sound e =
    rw (old-places d.session sound.inner e.member)
    (by-places d.session e (is_beyond d e.member) (quoted_by d e) (quote_refused d) (quote_done d e) (λ n. refl) done)
  where
    done : is_short (book_without d.session e).taken ≡ false
        → quoted_by d e (Ok (quote_change d.session.given d.session.book.taken (quote_places e.member d.session.book) (quote_from e))) ≡ quote_done d e
    done h =
        let same = ap (λ (r : Quoted Session). r.session) (requoted-is d.session e h) in
        rw (same, fresh-is d.session e h)

-- an accepted one has a row of the square, and stands at places
pub quote-row : (d : Desk) → SoundDesk d → (e : QuoteEntry) {c : QuoteChange} → quote_in d e ≡ Ok c → row_in d e.member < square_members
quote-row d sound e h =
    let s = d.session in
    leb-false square_members (row_in d e.member)
    (beyond-is d sound e.member ∙ quote-not-beyond s.phase s.parameters (plain.control_reference s) (is_beyond d e.member) s.given s.book.taken (old_in s e.member) e h)

pub quote-placed : (d : Desk) (e : QuoteEntry) {c : QuoteChange} → quote_in d e ≡ Ok c → (c.fresh.bid < places) × (c.fresh.ask < places)
quote-placed d e = placed d.session e (is_beyond d e.member) (old_in d.session e.member)
