-- Quotes: 02 K2. Which resting orders are sides of a member's quote, and the book without them.
use Rattle.std.specs.Prelude.{ℕ, ◌≤◌, ◌<◌, Bool, cond, ◌&&◌, ◌≡◌, List, eqb, get_or, set}
use Rattle.std.proofs.Common.{lt-ltb, le-ltb}
use Rattle.terms.specs.Bounds.{places}
use Rattle.terms.specs.Kinds.{is_place}
use Rattle.terms.specs.Orders.{Resting}
use Rattle.terms.specs.Sides.{same_side}
use Rattle.terms.specs.declared.orders.{Side.Side, Side.TheVariants.Buy, Side.TheVariants.Sell}
use Rattle.book.specs.declared.{Book.Book, Values.Values}
use Rattle.quotes.specs.declared.{Pair.Pair}
use Rattle.places.specs.Places.{marked_at, unmarked_at}
use Rattle.book.specs.Columns.{cleared}
use Rattle.book.specs.Resting.{first_of, place_of}

-- an order that is a side of a quote of this member
abbrev pub is_quote_of : ℕ → Resting → Bool
is_quote_of member o = o.quoted && eqb o.member member

-- .. its bid, which is a buy, or its ask, which is a sell
abbrev pub is_quote_side_of : ℕ → Side → Resting → Bool
is_quote_side_of member side o = is_quote_of member o && same_side o.side side

-- where the sides of a member's quote rest
abbrev pub quote_places : ℕ → Book → Pair
quote_places member b = record { bid = place_of (is_quote_side_of member Buy) b; ask = place_of (is_quote_side_of member Sell) b }

-- the book with a place cleared, where it is one
abbrev pub cleared_at : Book → ℕ → Book
cleared_at b place = cond (is_place place) (cleared b place) b

abbrev pub without_pair : Book → Pair → Book
without_pair b old = cleared_at (cleared_at b old.bid) old.ask

-- the book without what is left of a member's quote
abbrev pub without_quote : ℕ → Book → Book
without_quote member b = without_pair b (quote_places member b)

-- over the columns: a place that holds a side of the member's quotes; a free one holds none
abbrev pub is_quote_in : List ℕ → List ℕ → List ℕ → ℕ → ℕ → ℕ → Bool
is_quote_in quoted members sides member side place = eqb (get_or quoted place 0) 1 && (eqb (get_or members place 0) member && eqb (get_or sides place 0) side)

abbrev pub quote_place_in : List ℕ → List ℕ → List ℕ → ℕ → ℕ → ℕ → ℕ → ℕ
quote_place_in quoted members sides member side = first_of (is_quote_in quoted members sides member side)

-- a column with a place emptied, where it is one
abbrev pub emptied : {A : Type 0} → A → List A → ℕ → List A
emptied empty column place = cond (is_place place) (set column place empty) column

pub empty-here : {A : Type 0} (empty : A) (column : List A) (place : ℕ) → place < places → set column place empty ≡ emptied empty column place
empty-here empty column place h = rw (lt-ltb place places h)

pub empty-nowhere : {A : Type 0} (empty : A) (column : List A) (place : ℕ) → places ≤ place → column ≡ emptied empty column place
empty-nowhere empty column place h = rw (le-ltb place places h)

-- .. with the old sides emptied and the new ones put
unfoldable pub requoted : {A : Type 0} → A → List A → Pair → Pair → A → A → List A
requoted empty column old fresh bid ask = set (set (emptied empty (emptied empty column old.bid) old.ask) fresh.bid bid) fresh.ask ask

unfoldable pub requoted_words : List ℕ → Pair → Pair → List ℕ
requoted_words words old fresh = marked_at (marked_at (unmarked_at (unmarked_at words old.bid) old.ask) fresh.bid) fresh.ask

-- the whole book so
abbrev pub requoted_book : Book → Pair → Pair → Values → Values → Book
requoted_book b old fresh bid ask = record {
  taken = requoted_words b.taken old fresh;
  number = requoted 0 b.number old fresh bid.number ask.number;
  member = requoted 0 b.member old fresh bid.member ask.member;
  side = requoted 0 b.side old fresh bid.side ask.side;
  validity = requoted 0 b.validity old fresh bid.validity ask.validity;
  left = requoted 0 b.left old fresh bid.left ask.left;
  limit = requoted 0 b.limit old fresh bid.limit ask.limit;
  quoted = requoted 0 b.quoted old fresh bid.quoted ask.quoted;
}
