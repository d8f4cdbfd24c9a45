-- The book after an auction, from what rests at each place: a place where that is nothing is free, and any other keeps its order with that open.
-- Column by column, as the code settles it.
use Prim.Native.Nat.{ℕ, zero, suc, ◌+◌, ◌-◌, ◌≤◌, ◌<◌}
use Rattle.std.specs.Prelude.{Bool, cond, ◌≡◌, List, get_or, set}
use Rattle.std.proofs.Math.Bool.{true, false}
use Rattle.std.proofs.Math.Option.{Option, none, some}
use Rattle.std.proofs.Math.Path.{refl, sym, ap}
use Rattle.std.proofs.Common.{◌∙◌, add-suc, arith}
use Rattle.std.proofs.Math.Nat.{add-zero}
use Rattle.std.proofs.Math.Numerals.{add-one}
use borrow.Author.Tests.{eqb-true, lt-ltb}
use Rattle.std.proofs.Math.Dec.{eqb}
use Rattle.std.proofs.lemmas.List.{set-get_or}
use Rattle.terms.specs.Bounds.{places}
use Rattle.terms.specs.Orders.{Resting}
use Rattle.book.specs.declared.{Book.Book, Values.Values}
use Rattle.places.specs.Places.{is_taken, marked, unmarked, unmarked_at}
use Rattle.book.specs.Columns.{values_at, values_of, order_from, order_at, with_left, empty_values, written, stored, cleared}
use Rattle.book.specs.Resting.{put_back, changed_at, changed_to, changed}
use Rattle.book.specs.Sound.{SoundBook}
use Rattle.book.specs.Changed.{changed-to-later}

-- what a place holds in a column: its empty value where nothing rests
abbrev pub kept_by : {A : Type 0} → A → ℕ → A → A
kept_by empty rest x = cond (eqb rest 0) empty x

-- a column settled at the first n places, and what is open there
unfoldable pub column_to : {A : Type 0} → A → List ℕ → List A → ℕ → List A
column_to empty rests column zero = column
column_to empty rests column (suc n) = set (column_to empty rests column n) n (kept_by empty (get_or rests n 0) (get_or (column_to empty rests column n) n empty))

unfoldable pub left_to : List ℕ → List ℕ → ℕ → List ℕ
left_to rests lefts zero = lefts
left_to rests lefts (suc n) = set (left_to rests lefts n) n (get_or rests n 0)

-- which of the first n places are taken
unfoldable pub words_to : List ℕ → List ℕ → ℕ → List ℕ
words_to rests words zero = words
words_to rests words (suc n) = cond (eqb (get_or rests n 0) 0) (unmarked_at (words_to rests words n) n) (words_to rests words n)

-- the book settled at the first n places
abbrev pub settled_to : List ℕ → Book → ℕ → Book
settled_to rests b n = record {
  taken = words_to rests b.taken n;
  number = column_to 0 rests b.number n;
  member = column_to 0 rests b.member n;
  side = column_to 0 rests b.side n;
  validity = column_to 0 rests b.validity n;
  left = left_to rests b.left n;
  limit = column_to 0 rests b.limit n;
  quoted = column_to 0 rests b.quoted n;
}

-- .. from its columns, settled one by one
pub settled-as : (rests : List ℕ) (b : Book) (n : ℕ) {taken number member side validity left limit quoted : List ℕ}
    → taken ≡ words_to rests b.taken n → number ≡ column_to 0 rests b.number n → member ≡ column_to 0 rests b.member n → side ≡ column_to 0 rests b.side n
    → validity ≡ column_to 0 rests b.validity n → left ≡ left_to rests b.left n → limit ≡ column_to 0 rests b.limit n → quoted ≡ column_to 0 rests b.quoted n
    → record { taken = taken; number = number; member = member; side = side; validity = validity; left = left; limit = limit; quoted = quoted } ≡ settled_to rests b n
settled-as rests b n t u m s v l i q = rw (t, u, m, s, v, l, i, q)

-- one place on
pub column-next : {A : Type 0} (empty : A) (rests : List ℕ) (column now : List A) (n : ℕ) → now ≡ column_to empty rests column n → (x : A) → x ≡ kept_by empty (get_or rests n 0) (get_or now n empty)
    → set now n x ≡ column_to empty rests column (n + 1)
unfolding column_to
column-next empty rests column now n so_far x is = rw (add-one, ← so_far, is)

pub left-next : (rests lefts now : List ℕ) (n : ℕ) → now ≡ left_to rests lefts n → set now n (get_or rests n 0) ≡ left_to rests lefts (n + 1)
unfolding left_to
left-next rests lefts now n so_far = rw (add-one, ← so_far)

module _ (rests words now : List ℕ) (n : ℕ) (so_far : now ≡ words_to rests words n) where
  pub words-freed : get_or rests n 0 ≡ 0 → (next : List ℕ) → next ≡ unmarked_at now n → next ≡ words_to rests words (n + 1)
  unfolding words_to
  words-freed nothing next is = rw (is, add-one, ← so_far, nothing)

  pub words-kept : eqb (get_or rests n 0) 0 ≡ false → now ≡ words_to rests words (n + 1)
  unfolding words_to
  words-kept more = rw (add-one, ← so_far, more)

-- what rests of an order with these values: nothing, or the order with that open
abbrev pub rest_from : ℕ → Values → Option Resting
rest_from rest r = cond (eqb rest 0) none (some (order_from (with_left r rest)))

-- to mark a taken place changes nothing, nor to free a free one
marked-again : (words : List ℕ) (place : ℕ) → is_taken words place ≡ true → marked words place ≡ words
unfolding marked
marked-again words place e = rw e (set-get_or words _ 0)

unmarked-again : (words : List ℕ) (place : ℕ) → is_taken words place ≡ false → unmarked words place ≡ words
unfolding unmarked
unmarked-again words place e = rw e (set-get_or words _ 0)

-- What rests at a taken place is stored by writing its open quantity alone.
stored-left : (c : Book) (place rest : ℕ) → is_taken c.taken place ≡ true → values_of (order_at c place) ≡ values_at c place
    → stored c place (order_from (with_left (values_at c place) rest)) ≡ written c c.taken place (with_left (values_at c place) rest)
unfolding stored
stored-left c place rest taken coded =
    ap (λ (words : List ℕ). written c words place (with_left (values_of (order_at c place)) rest)) (marked-again c.taken place taken)
    ∙ ap (λ (r : Values). written c c.taken place (with_left r rest)) coded

-- to write what stands at a place changes nothing
written-again : (c : Book) (place : ℕ) → written c c.taken place (values_at c place) ≡ c
written-again c place = rw (
  set-get_or c.number place 0,
  set-get_or c.member place 0,
  set-get_or c.side place 0,
  set-get_or c.validity place 0,
  set-get_or c.left place 0,
  set-get_or c.limit place 0,
  set-get_or c.quoted place 0,
)

-- the values at a place with that resting there
abbrev rest_values : ℕ → Values → Values
rest_values rest r = record {
  number = kept_by 0 rest r.number;
  member = kept_by 0 rest r.member;
  side = kept_by 0 rest r.side;
  validity = kept_by 0 rest r.validity;
  left = rest;
  limit = kept_by 0 rest r.limit;
  quoted = kept_by 0 rest r.quoted;
}

abbrev settled_at : List ℕ → Book → ℕ → Book
settled_at rests c place = written c (cond (eqb (get_or rests place 0) 0) (unmarked_at c.taken place) c.taken) place (rest_values (get_or rests place 0) (values_at c place))

settled-next : (rests : List ℕ) (b : Book) (n : ℕ) → settled_to rests b (suc n) ≡ settled_at rests (settled_to rests b n) n
unfolding column_to left_to words_to
settled-next rests b n = refl

-- One place: its order goes, or rests with that open; or it is free, and nothing changes.
module _ (change : Resting → Option Resting) (rests : List ℕ) (c : Book) (place : ℕ) (here : place < places) where
  freed : unmarked_at c.taken place ≡ unmarked c.taken place
  freed = rw (lt-ltb place places here)

  settled_at_lem : (is_taken c.taken place ≡ true → (values_of (order_at c place) ≡ values_at c place) × (change (order_at c place) ≡ rest_from (get_or rests place 0) (values_at c place)))
      → (is_taken c.taken place ≡ false → (values_at c place ≡ empty_values) × (get_or rests place 0 ≡ 0))
      → settled_at rests c place ≡ changed_at change c place
  unfolding cleared
  settled_at_lem known empty = go (is_taken c.taken place) refl
    where
      at_rest : is_taken c.taken place ≡ true → values_of (order_at c place) ≡ values_at c place → (rest : ℕ) (t : Bool) → eqb rest 0 ≡ t
          → written c (cond t (unmarked_at c.taken place) c.taken) place (rest_values rest (values_at c place)) ≡ put_back c place (cond t none (some (order_from (with_left (values_at c place) rest))))
      at_rest e coded rest true z = let i : rest ≡ 0 = eqb-true rest 0 z in rw (i, freed)
      at_rest e coded rest false z = rw z (sym (stored-left c place rest e coded))

      go : (t : Bool) → is_taken c.taken place ≡ t → settled_at rests c place ≡ cond t (put_back c place (change (order_at c place))) c
      go true e = let (coded, is) = known e in rw is (at_rest e coded (get_or rests place 0) (eqb (get_or rests place 0) 0) refl)
      go false e =
          let (blank, nothing) = empty e in
          rw nothing
          (ap (λ (words : List ℕ). written c words place empty_values) (freed ∙ unmarked-again c.taken place e)
          ∙ ap (λ (r : Values). written c c.taken place r) (sym blank)
          ∙ written-again c place)

-- A book is settled as it is changed, where what rests is what the change leaves of each order, and nothing at a free place.
module _ (legal : ℕ → Bool) (given : ℕ) (change : Resting → Option Resting) (rests : List ℕ) (b : Book) (sound : SoundBook legal given b)
    (left : (p : ℕ) → p < places → is_taken b.taken p ≡ true → change (order_at b p) ≡ rest_from (get_or rests p 0) (values_at b p))
    (nothing : (p : ℕ) → p < places → is_taken b.taken p ≡ false → get_or rests p 0 ≡ 0) where
  settled-changed-to : (n : ℕ) → n ≤ places → settled_to rests b n ≡ changed_to change b n
  unfolding column_to left_to words_to changed_to
  settled-changed-to zero h = refl
  settled-changed-to (suc n) h =
      let (same, raw) = changed-to-later change b sound.sized n n (omega arith) (omega arith) in
      settled-next rests b n
      ∙ ap (λ (c : Book). settled_at rests c n) (settled-changed-to n (omega arith))
      ∙ settled_at_lem change rests (changed_to change b n) n (omega arith)
      (λ e. (
        ap (λ (r : Values). values_of (order_from r)) raw ∙ (sound.each n (omega arith)).coded (sym same ∙ e) ∙ sym raw,
        ap (λ (r : Values). change (order_from r)) raw ∙ left n (omega arith) (sym same ∙ e) ∙ ap (rest_from (get_or rests n 0)) (sym raw),
      ))
      (λ e. (raw ∙ (sound.each n (omega arith)).free (sym same ∙ e), nothing n (omega arith) (sym same ∙ e)))

  -- behind the last taken place nothing changes
  changed-behind : (end m : ℕ) → end + m ≤ places → ((p : ℕ) → end ≤ p → p < places → is_taken b.taken p ≡ false) → changed_to change b (end + m) ≡ changed_to change b end
  unfolding changed_to
  changed-behind end zero h free = rw add-zero
  changed-behind end (suc m) h free =
      let (same, raw) = changed-to-later change b sound.sized (end + m) (end + m) (omega arith) (omega arith) in
      rw (add-suc, same ∙ free (end + m) (omega arith) (omega arith)) (changed-behind end m (omega arith) free)

  pub settled-changed : (end : ℕ) → end ≤ places → ((p : ℕ) → end ≤ p → p < places → is_taken b.taken p ≡ false) → settled_to rests b end ≡ changed change b
  settled-changed end h free = settled-changed-to end h ∙ sym (changed-behind end (places - end) (omega arith) free) ∙ ap (changed_to change b) (omega arith)
