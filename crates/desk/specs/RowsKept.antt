-- Which changes of a book leave each taken place its member's row (RowsKnown).
use Rattle.std.specs.Prelude.{ℕ, ◌<◌, Bool, true, false, ◌≡◌, refl, List, length, get_or, set}
use Rattle.std.proofs.Common.{true≢false, ⊎_elim, sym, ap, subst, ◌∙◌, arith, get_or-set_same, get_or-set_other}
use Rattle.std.proofs.Math.Option.{Option, none, some}
use Rattle.terms.specs.Bounds.{places}
use Rattle.terms.specs.Orders.{Resting}
use Rattle.places.specs.Places.{is_taken}
use Rattle.book.specs.declared.{Book.Book, Values.Values}
use Rattle.book.specs.Columns.{order_at, stored, cleared}
use Rattle.book.specs.Writing.{Sized, SameAt, stored-raw, stored-elsewhere, cleared-free, cleared-elsewhere}
use Rattle.book.specs.Resting.{changed}
use Rattle.book.specs.Changed.{AfterAt, Keeps, changed-at}
use Rattle.book.specs.Sound.{SoundOrder, SoundBook, same_or_not}
use Rattle.quotes.specs.Quotes.{without_quote}
use Rattle.quotes.specs.Without.{without-elsewhere, still-taken}
use Rattle.squares.specs.Square.{square_members, row_of, Small}
use Rattle.desk.specs.Sound.{RowsKnown}

-- ---- orders that leave
-- what stands in c stood in b already, under the same member
abbrev pub Fewer : Book → Book → Type 0
Fewer c b = (p : ℕ) → p < places → is_taken c.taken p ≡ true → (is_taken b.taken p ≡ true) × (get_or c.member p 0 ≡ get_or b.member p 0)

pub rows-fewer : (members rows : List ℕ) (c b : Book) → Fewer c b → RowsKnown members rows b → RowsKnown members rows c
rows-fewer members rows c b fewer known p h taken = let (before, same) = fewer p h taken in rw same (known p h before)

stays : (c b : Book) (p : ℕ) → SameAt c b p → is_taken c.taken p ≡ true → (is_taken b.taken p ≡ true) × (get_or c.member p 0 ≡ get_or b.member p 0)
stays c b p (taken, raw) t = (sym taken ∙ t, ap (λ (r : Values). r.member) raw)

pub cleared-fewer : (b : Book) → Sized b → (place : ℕ) → place < places → Fewer (cleared b place) b
cleared-fewer b sized place here p h taken =
    ⊎_elim (λ i. absurd (true≢false (sym taken ∙ subst (λ (q : ℕ). is_taken (cleared b place).taken q ≡ false) (sym i) (cleared-free b sized place here))))
    (λ n. stays (cleared b place) b p (cleared-elsewhere b sized place here p n) taken)
    (same_or_not p place)

module _ (legal : ℕ → Bool) (given : ℕ) (b : Book) (sound : SoundBook legal given b) where
  pub without_fewer : (member : ℕ) → Fewer (without_quote member b) b
  without_fewer member p h taken = let (n, m) = still-taken legal given b sound member p h taken in stays (without_quote member b) b p (without-elsewhere legal given b sound member p n m) taken

  pub changed-fewer : (change : Resting → Option Resting) (keeps : (o o' : Resting) → SoundOrder legal given o → change o ≡ some o' → SoundOrder legal given o' × Keeps o' o) → Fewer (changed change b) b
  changed-fewer change keeps p h taken = go (is_taken b.taken p) refl (change (order_at b p)) refl
    where
      after : AfterAt change b (changed change b) p
      after = changed-at legal given change keeps b sound p h

      go : (t : Bool) → is_taken b.taken p ≡ t → (r : Option Resting) → change (order_at b p) ≡ r → (is_taken b.taken p ≡ true) × (get_or (changed change b).member p 0 ≡ get_or b.member p 0)
      go false e r f = absurd (true≢false (sym taken ∙ (after.free e).0))
      go true e none f = absurd (true≢false (sym taken ∙ (after.gone e f).0))
      go true e (some o) f = (e, ap (λ (x : Resting). x.member) (after.left o e f).1 ∙ (keeps (order_at b p) o ((sound.each p h).rests e) f).1.member)

-- ---- an order that enters
-- a place has its member's row
abbrev RowAt : List ℕ → List ℕ → Book → ℕ → Type 0
RowAt members rows b p = (get_or rows p 0 ≡ row_of members (get_or b.member p 0)) × (get_or rows p 0 < length members)

module _ (members rows : List ℕ) (long : length rows ≡ places) (b : Book) (sized : Sized b) (known : RowsKnown members rows b) (place : ℕ) (here : place < places)
    (o : Resting) (row : ℕ) (is : row ≡ row_of members o.member) (below : row < length members) where
  at_its_place : RowAt members (set rows place row) (stored b place o) place
  at_its_place = rw (get_or-set_same rows place row 0 (omega arith), ap (λ (r : Values). r.member) (stored-raw b sized place here o)) (is, below)

  pub rows-stored : RowsKnown members (set rows place row) (stored b place o)
  rows-stored p h taken =
      ⊎_elim (λ i. subst (RowAt members (set rows place row) (stored b place o)) (sym i) at_its_place)
      (λ n. let (before, same) = stays (stored b place o) b p (stored-elsewhere b sized place here o p n) taken in rw (same, get_or-set_other rows place p row 0 n) (known p h before))
      (same_or_not p place)

pub small-set : (rows : List ℕ) (place row : ℕ) → place < length rows → row < square_members → Small rows → Small (set rows place row)
small-set rows place row here below small p =
    ⊎_elim (λ i. subst (λ (q : ℕ). get_or (set rows place row) q 0 < square_members) (sym i) (rw (get_or-set_same rows place row 0 here) below))
    (λ n. rw (get_or-set_other rows place p row 0 n) (small p))
    (same_or_not p place)
