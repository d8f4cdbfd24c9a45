-- What an order and a deletion change, from the parts of a session that decide it.
use Rattle.std.specs.Prelude.{ℕ, ◌+◌, ◌/◌, ◌%◌, ◌<◌, Bool, true, false, not, ◌&&◌, ◌≢◌, ◌≡◌, refl, List, get_or, Result, Ok, Err}
use Rattle.std.proofs.Common.{sym, ap, subst, ◌∙◌, arith, leb-false, ltb-true}
use Rattle.std.proofs.lemmas.Bool.{eqb-false, not-false}
use Rattle.terms.specs.Bounds.{places, max_number}
use Rattle.terms.specs.Kinds.{is_place, is_number, is_member}
use Rattle.terms.specs.Orders.{is_entry, order_from, resting_as}
use Rattle.terms.specs.declared.kinds.{Price.Price}
use Rattle.terms.specs.declared.orders.{Order.Order, Entry.Entry}
use Rattle.terms.specs.declared.parameters.{Parameters.Parameters}
use Rattle.places.specs.Places.{word_places, lowest_free, count_taken, is_full, with_bit, without_bit}
use Rattle.places.specs.Words.{lowest-free-room, full-none-free}
use Rattle.book.specs.declared.Values.{Values}
use Rattle.book.specs.Columns.{values_of, empty_values}
use Rattle.controls.specs.declared.phases.{Phase.Phase}
use Rattle.refusals.specs.Checks.{Check, first_hit, answered, answered-refused, answered-done, answered-cases, hits, passes}
use Rattle.refusals.specs.Rows.{order_rows, order_later, delete_rows, delete_later}
use Rattle.refusals.specs.Exactly.{clear}
use Rattle.effects.specs.declared.{Change.Change}

-- an order of this number at the lowest free place
abbrev pub order_change : ℕ → List ℕ → Order → Change
order_change number taken o = let place = lowest_free taken in record {
  given = number;
  place = place;
  word = with_bit (place % word_places) (get_or taken (place / word_places) 0);
  values = values_of (resting_as number false o);
}

-- beyond: an entry by a thirty-third member, where the square is kept; false in a plain session (02 K5)
unfoldable pub order_effect : Phase → Parameters → Price → Bool → ℕ → List ℕ → Entry → Result Change ℕ
order_effect phase p reference beyond given taken e =
    answered (order_rows phase p reference beyond given (is_full taken) e) Err (Ok (order_change (given + 1) taken (order_from e)))

-- a place freed
abbrev pub delete_change : ℕ → List ℕ → ℕ → Change
delete_change given taken place = record {
  given = given;
  place = place;
  word = without_bit (place % word_places) (get_or taken (place / word_places) 0);
  values = empty_values;
}

-- of the order that stands at the place, or nowhere
unfoldable pub delete_effect : Phase → ℕ → List ℕ → ℕ → ℕ → ℕ → Result Change ℕ
delete_effect phase given taken place number member =
    answered (delete_rows phase number member (not (is_place place))) Err (Ok (delete_change given taken place))

-- ---- from what the code learns on the way
-- what holds of what is done holds of a change that is done
changes : (checks : List Check) (done : Change) (P : Change → Type 0) → (0 ≡ first_hit checks → P done) → {c : Change} → answered checks Err (Ok done) ≡ Ok c → P c
changes checks done P holds {c} =
    answered-cases checks Err (Ok done) (λ (f : Result Change ℕ). f ≡ Ok c → P c)
    (λ n h e i. absurd cc)
    (λ e i. subst P (ap (change_or done) i) (holds e)) where
      change_or : Change → Result Change ℕ → Change
      change_or d (Err n) = d
      change_or d (Ok c) = c

-- an entry that is made an order passes check 1, and one that isn't hits it
module _ (phase : Phase) (p : Parameters) (reference : Price) (beyond : Bool) (given : ℕ) (taken : List ℕ) (e : Entry) where
  abbrev rows : List Check
  rows = order_rows phase p reference beyond given (is_full taken) e

  pub order-place : {c : Change} → order_effect phase p reference beyond given taken e ≡ Ok c → c.place < places
  unfolding order_effect
  order-place = changes rows (order_change (given + 1) taken (order_from e)) (λ (c : Change). c.place < places) (λ h. lowest-free-room taken (eqb-false (count_taken taken) places (clear rows tt h 10)))

  -- an order that is done is not beyond
  pub order-not-beyond : {c : Change} → order_effect phase p reference beyond given taken e ≡ Ok c → beyond ≡ false
  unfolding order_effect
  order-not-beyond = changes rows (order_change (given + 1) taken (order_from e)) (λ (c : Change). beyond ≡ false) (λ h. clear rows tt h 16)

  -- an order is no side of a quote
  pub order-plain : {c : Change} → order_effect phase p reference beyond given taken e ≡ Ok c → c.values.quoted ≡ 0
  unfolding order_effect
  order-plain = changes rows (order_change (given + 1) taken (order_from e)) (λ (c : Change). c.values.quoted ≡ 0) (λ h. refl)

  pub order-out-of-range : is_entry e ≡ false → Err 1 ≡ order_effect phase p reference beyond given taken e
  unfolding order_effect
  order-out-of-range h = answered-refused rows Err _ (hits 1 _ (rw h)) (λ z. omega arith)

  module _ {o : Order} (good : (is_entry e ≡ true) × (o ≡ order_from e)) {place n : ℕ} {left : Bool} (free : place ≡ lowest_free taken) (is-left : left ≡ is_place place)
      (hit : n ≡ first_hit (order_later phase p reference beyond given (not left) o)) where
    order-hit : n ≡ first_hit rows
    order-hit = passes 1 _ (rw good.0) (rw (good.1, is-left, free, full-none-free taken) at hit)

    pub order-turned-down : n ≢ 0 → Err n ≡ order_effect phase p reference beyond given taken e
    unfolding order_effect
    order-turned-down h = answered-refused rows Err _ order-hit h

    module _ (z : n ≡ 0) where
      pub number-left : given < max_number
      number-left = leb-false max_number given (clear rows tt (sym z ∙ order-hit) 9)

      pub place-left : place < places
      place-left = rw free (lowest-free-room taken (eqb-false (count_taken taken) places (clear rows tt (sym z ∙ order-hit) 10)))

      pub order-done : {word : ℕ} {values : Values} → word ≡ with_bit (place % word_places) (get_or taken (place / word_places) 0) → values ≡ values_of (resting_as (given + 1) false o)
          → Ok (record { given = given + 1; place = place; word = word; values = values }) ≡ order_effect phase p reference beyond given taken e
      unfolding order_effect
      order-done bits same = rw (bits, free, same, good.1) (answered-done rows Err (Ok (order_change (given + 1) taken (order_from e))) (sym z ∙ order-hit))

module _ (phase : Phase) (given : ℕ) (taken : List ℕ) (place number member : ℕ) where
  abbrev deletions : List Check
  deletions = delete_rows phase number member (not (is_place place))

  found : 0 ≡ first_hit deletions → place < places
  found h = ltb-true place places (not-false _ (clear deletions tt h 11))

  pub delete-place : {c : Change} → delete_effect phase given taken place number member ≡ Ok c → c.place < places
  unfolding delete_effect
  delete-place = changes deletions (delete_change given taken place) (λ (c : Change). c.place < places) found

  pub delete-plain : {c : Change} → delete_effect phase given taken place number member ≡ Ok c → c.values.quoted ≡ 0
  unfolding delete_effect
  delete-plain = changes deletions (delete_change given taken place) (λ (c : Change). c.values.quoted ≡ 0) (λ h. refl)

  pub delete-out-of-range : is_number number && is_member member ≡ false → Err 1 ≡ delete_effect phase given taken place number member
  unfolding delete_effect
  delete-out-of-range h = answered-refused deletions Err _ (hits 1 _ (rw h)) (λ z. omega arith)

  module _ (good : is_number number && is_member member ≡ true) {n : ℕ} (hit : n ≡ first_hit (delete_later phase (not (is_place place)))) where
    delete-hit : n ≡ first_hit deletions
    delete-hit = passes 1 _ (rw good) hit

    pub delete-turned-down : n ≢ 0 → Err n ≡ delete_effect phase given taken place number member
    unfolding delete_effect
    delete-turned-down h = answered-refused deletions Err _ delete-hit h

    pub delete-room : n ≡ 0 → place < places
    delete-room z = found (sym z ∙ delete-hit)

    pub delete-done : n ≡ 0 → {word : ℕ} → word ≡ without_bit (place % word_places) (get_or taken (place / word_places) 0) → {values : Values} → values ≡ empty_values
        → Ok (record { given = given; place = place; word = word; values = values }) ≡ delete_effect phase given taken place number member
    unfolding delete_effect
    delete-done z w v = rw (w, v) (answered-done deletions Err (Ok (delete_change given taken place)) (sym z ∙ delete-hit))
