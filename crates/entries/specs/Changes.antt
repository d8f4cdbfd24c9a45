-- A change stored in a session; and that what an order and a deletion change is what the calls leave.
use Rattle.std.specs.Prelude.{ℕ, ◌+◌, ◌/◌, false, not, ◌≡◌, List, set, Result, Ok, Err}
use Rattle.terms.specs.Bounds.{places}
use Rattle.terms.specs.Kinds.{is_place}
use Rattle.terms.specs.Orders.{order_from}
use Rattle.terms.specs.declared.orders.{Entry.Entry}
use Rattle.places.specs.Places.{word_places, marked, unmarked}
use Rattle.book.specs.Columns.{written, stored, cleared}
use Rattle.book.specs.Resting.{place_of, is_of, place_in, place-in}
use Rattle.book.specs.ByPlace.{any-resting}
use Rattle.refusals.specs.Checks.{answered-map}
use Rattle.refusals.specs.Rows.{delete_rows}
use Rattle.effects.specs.declared.{Change.Change}
use Rattle.effects.specs.Effects.{order_change, order_effect, delete_change, delete_effect}
use Rattle.session.specs.declared.{Session.Session}
use Rattle.entries.specs.declared.{Entered.Entered, Deleted.Deleted}
use Rattle.session.specs.State.{with_book}
use Rattle.entries.specs.Entry.{control_reference, order_checks, entered, delete_checks, deleted}

-- a session with a change
abbrev pub changed : Session → Change → Session
changed s c = with_book s c.given (written s.book (set s.book.taken (c.place / word_places) c.word) c.place c.values)

-- .. and a session whose columns are stored one by one is this session
pub stored-as : (s : Session) (c : Change) {taken number member side validity left limit quoted : List ℕ} → taken ≡ set s.book.taken (c.place / word_places) c.word
    → number ≡ set s.book.number c.place c.values.number → member ≡ set s.book.member c.place c.values.member
    → side ≡ set s.book.side c.place c.values.side → validity ≡ set s.book.validity c.place c.values.validity
    → left ≡ set s.book.left c.place c.values.left → limit ≡ set s.book.limit c.place c.values.limit → quoted ≡ set s.book.quoted c.place c.values.quoted
    → with_book s c.given (record { taken = taken; number = number; member = member; side = side; validity = validity; left = left; limit = limit; quoted = quoted }) ≡ changed s c
stored-as s c a b d e f g h i = rw (a, b, d, e, f, g, h, i)

-- what an order and a deletion change in a session
abbrev pub order_in : Session → Entry → Result Change ℕ
order_in s e = order_effect s.phase s.parameters (control_reference s) false s.given s.book.taken e

abbrev pub delete_in : Session → ℕ → ℕ → Result Change ℕ
delete_in s number member = delete_effect s.phase s.given s.book.taken (place_in s.book.taken s.book.number s.book.member number member 0 places) number member

-- what the calls return, by the effect
abbrev pub entered_by : Session → Result Change ℕ → Entered Session
entered_by s (Err n) = record { answer = n; number = 0; session = s }
entered_by s (Ok c) = record { answer = 0; number = c.given; session = changed s c }

abbrev pub deleted_by : Session → Result Change ℕ → Deleted Session
deleted_by s (Err n) = record { answer = n; session = s }
deleted_by s (Ok c) = record { answer = 0; session = changed s c }

-- what an order does is what the call returns
pub entered_by_lem : (s : Session) (e : Entry) → entered_by s (order_in s e) ≡ entered s e
unfolding entered order_effect stored marked
entered_by_lem s e = answered-map (entered_by s) (order_checks s e) Err (Ok (order_change (s.given + 1) s.book.taken (order_from e)))

-- .. and a deletion
module _ (s : Session) (number member : ℕ) where
  delete-rows : delete_rows s.phase number member (not (is_place (place_in s.book.taken s.book.number s.book.member number member 0 places))) ≡ delete_checks s number member
  delete-rows = rw (place-in s.book number member, any-resting (is_of number member) s.book)

  pub deleted-by : deleted_by s (delete_in s number member) ≡ deleted s number member
  unfolding deleted delete_effect cleared unmarked
  deleted-by =
      rw (delete-rows, place-in s.book number member)
      (answered-map (deleted_by s) (delete_checks s number member) Err (Ok (delete_change s.given s.book.taken (place_of (is_of number member) s.book))))
