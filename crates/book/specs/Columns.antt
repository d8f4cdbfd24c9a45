-- Columns: how an order stands at a place, and what storing and clearing change.
use Rattle.std.specs.Prelude.{ℕ, Bool, true, false, List, eqb, get_or, set, replicate}
use Rattle.terms.specs.Bounds.{places}
use Rattle.terms.specs.Orders.{Resting, side_number, side_from, validity_number, validity_from, limit_number, limit_from}
use Rattle.book.specs.declared.{Book.Book, Values.Values}
use Rattle.places.specs.Places.{word_count, marked, unmarked}

-- what the columns hold at a place
abbrev pub values_at : Book → ℕ → Values
values_at b place = record {
  number = get_or b.number place 0;
  member = get_or b.member place 0;
  side = get_or b.side place 0;
  validity = get_or b.validity place 0;
  left = get_or b.left place 0;
  limit = get_or b.limit place 0;
  quoted = get_or b.quoted place 0;
}

-- 1 for a side of a quote
abbrev pub mark_of : Bool → ℕ
mark_of true = 1
mark_of false = 0

-- an order as the columns hold it, under the numbers of 01, and back
abbrev pub values_of : Resting → Values
values_of o = record {
  number = o.number;
  member = o.member;
  side = side_number o.side;
  validity = validity_number o.validity;
  left = o.left;
  limit = limit_number o.limit;
  quoted = mark_of o.quoted;
}

abbrev pub order_from : Values → Resting
order_from r = record {
  number = r.number;
  member = r.member;
  side = side_from r.side;
  validity = validity_from r.validity;
  left = r.left;
  limit = limit_from r.limit;
  quoted = eqb r.quoted 1;
}

-- the order at a place
abbrev pub order_at : Book → ℕ → Resting
order_at b place = order_from (values_at b place)

-- .. with another open quantity
abbrev pub with_left : Values → ℕ → Values
with_left r left = record { number = r.number; member = r.member; side = r.side; validity = r.validity; left = left; limit = r.limit; quoted = r.quoted }

-- the empty values
abbrev pub empty_values : Values
empty_values = record { number = 0; member = 0; side = 0; validity = 0; left = 0; limit = 0; quoted = 0 }

-- every place free, and the empty value 0 in every column
abbrev pub empty_book : Book
empty_book = record {
  taken = replicate word_count 0;
  number = replicate places 0;
  member = replicate places 0;
  side = replicate places 0;
  validity = replicate places 0;
  left = replicate places 0;
  limit = replicate places 0;
  quoted = replicate places 0;
}

-- the book with other words, and other values at a place
abbrev pub written : Book → List ℕ → ℕ → Values → Book
written b words place r = record {
  taken = words;
  number = set b.number place r.number;
  member = set b.member place r.member;
  side = set b.side place r.side;
  validity = set b.validity place r.validity;
  left = set b.left place r.left;
  limit = set b.limit place r.limit;
  quoted = set b.quoted place r.quoted;
}

-- the book with an order at a place
unfoldable pub stored : Book → ℕ → Resting → Book
stored b place o = written b (marked b.taken place) place (values_of o)

-- the book with a place free, written back to the empty values
unfoldable pub cleared : Book → ℕ → Book
cleared b place = written b (unmarked b.taken place) place empty_values
