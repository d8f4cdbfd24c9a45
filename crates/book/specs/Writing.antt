-- Changes: what writing a place does to it, and to every other.
use Rattle.std.specs.Prelude.{ℕ, zero, suc, ◌/◌, ◌<◌, Bool, true, false, ◌≢◌, ◌≡◌, refl, List, T, eqb, length, get_or, set}
use Rattle.std.proofs.Common.{ap, ◌∙◌, arith, length-set, get_or-set_same, get_or-set_other}
use Rattle.terms.specs.Bounds.{places}
use Rattle.terms.specs.Kinds.{is_price}
use Rattle.terms.specs.Orders.{Resting, at_price, side_from, validity_from, side_number, validity_number, limit_number, limit_from, is_limit}
use Rattle.terms.specs.declared.orders.{Side.Side, Side.TheVariants.Buy, Side.TheVariants.Sell, Validity.Validity, Validity.TheVariants.AtOpening, Validity.TheVariants.AtClose, Validity.TheVariants.Day, Validity.TheVariants.LaterDay, Limit.Limit, Limit.TheVariants.Unlimited, Limit.TheVariants.At}
use Rattle.book.specs.declared.Book.{Book}
use Rattle.places.specs.Places.{word_count, is_taken, marked, unmarked}
use Rattle.places.specs.Words.{marked-taken, marked-elsewhere, unmarked-free, unmarked-elsewhere, marked-length, unmarked-length}
use Rattle.book.specs.Columns.{values_at, mark_of, values_of, order_from, order_at, empty_values, written, stored, cleared}
use Rattle.book.specs.declared.Values.{Values}

-- eight words, and columns of 512
pub record Sized (b : Book) : Type 0 where
  pub taken : length b.taken ≡ word_count
  pub number : length b.number ≡ places
  pub member : length b.member ≡ places
  pub side : length b.side ≡ places
  pub validity : length b.validity ≡ places
  pub left : length b.left ≡ places
  pub limit : length b.limit ≡ places
  pub quoted : length b.quoted ≡ places

-- an order comes back from the columns as it was put there
side-back : (s : Side) → side_from (side_number s) ≡ s
side-back Buy = refl
side-back Sell = refl

validity-back : (v : Validity) → validity_from (validity_number v) ≡ v
validity-back AtOpening = refl
validity-back AtClose = refl
validity-back Day = refl
validity-back LaterDay = refl

limit-back : (w : Limit) → T (is_limit w) → limit_from (limit_number w) ≡ w
limit-back Unlimited h = refl
limit-back (At p) h = price-back p.0 h where
  price-back : (n : ℕ) → T (is_price n) → limit_from n ≡ at_price n
  price-back zero h = absurd h
  price-back (suc n) h = refl

mark-back : (quoted : Bool) → eqb (mark_of quoted) 1 ≡ quoted
mark-back true = refl
mark-back false = refl

order-back : (o : Resting) → T (is_limit o.limit) → order_from (values_of o) ≡ o
order-back o h = rw (side-back o.side, validity-back o.validity, limit-back o.limit h, mark-back o.quoted)

module _ (b : Book) (words : List ℕ) (place : ℕ) (r : Values) where
  written-elsewhere : (p : ℕ) → p ≢ place → values_at (written b words place r) p ≡ values_at b p
  written-elsewhere p n = simp get_or-set_other

  written-here : Sized b → place < places → values_at (written b words place r) place ≡ r
  written-here sized h =
      rw (
        cell b.number r.number sized.number,
        cell b.member r.member sized.member,
        cell b.side r.side sized.side,
        cell b.validity r.validity sized.validity,
        cell b.left r.left sized.left,
        cell b.limit r.limit sized.limit,
        cell b.quoted r.quoted sized.quoted,
      )
    where
      cell : (column : List ℕ) (x : ℕ) → length column ≡ places → get_or (set column place x) place 0 ≡ x
      cell column x e = get_or-set_same column place x 0 (omega arith)

  written-sized : Sized b → length words ≡ word_count → Sized (written b words place r)
  written-sized sized e = record {
    taken = e;
    number = rw length-set sized.number;
    member = rw length-set sized.member;
    side = rw length-set sized.side;
    validity = rw length-set sized.validity;
    left = rw length-set sized.left;
    limit = rw length-set sized.limit;
    quoted = rw length-set sized.quoted;
  }

-- another book is as this one at a place
abbrev pub SameAt : Book → Book → ℕ → Type 0
SameAt c b p = (is_taken c.taken p ≡ is_taken b.taken p) × (values_at c p ≡ values_at b p)

module _ (b : Book) (sized : Sized b) (place : ℕ) (here : place < places) where
  word-here : place / 64 < length b.taken
  word-here = omega (arith, sized.taken)

  -- Storing: the place is taken by the order, and all others are as before.
  module _ (o : Resting) where
    pub stored-taken : is_taken (stored b place o).taken place ≡ true
    unfolding stored
    stored-taken = marked-taken b.taken place word-here

    pub stored-raw : values_at (stored b place o) place ≡ values_of o
    unfolding stored
    stored-raw = written-here b (marked b.taken place) place (values_of o) sized here

    pub stored-order : T (is_limit o.limit) → order_at (stored b place o) place ≡ o
    stored-order h = ap order_from stored-raw ∙ order-back o h

    pub stored-elsewhere : (p : ℕ) → p ≢ place → SameAt (stored b place o) b p
    unfolding stored
    stored-elsewhere p n = (marked-elsewhere b.taken place p word-here n, written-elsewhere b (marked b.taken place) place (values_of o) p n)

    pub stored-sized : Sized (stored b place o)
    unfolding stored
    stored-sized = written-sized b (marked b.taken place) place (values_of o) sized (marked-length b.taken place ∙ sized.taken)

  -- Clearing: the place is free and empty, and all others are as before.
  pub cleared-free : is_taken (cleared b place).taken place ≡ false
  unfolding cleared
  cleared-free = unmarked-free b.taken place word-here

  pub cleared-raw : values_at (cleared b place) place ≡ empty_values
  unfolding cleared
  cleared-raw = written-here b (unmarked b.taken place) place empty_values sized here

  pub cleared-elsewhere : (p : ℕ) → p ≢ place → SameAt (cleared b place) b p
  unfolding cleared
  cleared-elsewhere p n = (unmarked-elsewhere b.taken place p word-here n, written-elsewhere b (unmarked b.taken place) place empty_values p n)

  pub cleared-sized : Sized (cleared b place)
  unfolding cleared
  cleared-sized = written-sized b (unmarked b.taken place) place empty_values sized (unmarked-length b.taken place ∙ sized.taken)
