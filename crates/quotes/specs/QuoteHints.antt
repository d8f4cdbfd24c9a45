-- Hints for quotes: by member, where a side of its quotes may rest. Only that there is none is believed; a place is looked at.
use Rattle.std.specs.Prelude.{ℕ, zero, suc, ◌+◌, ◌%◌, ◌<◌, Bool, true, false, cond, ◌&&◌, ◌≢◌, ◌≡◌, refl, List, [], ◌∷◌, eqb, length, get_or, set}
use Rattle.std.proofs.Common.{true≢false, ⊎_elim, sym, ap, ◌∙◌, arith, eqb-true, eq-eqb, length-set, get_or-set_same, get_or-set_other}
use Rattle.terms.specs.Bounds.{places}
use Rattle.terms.specs.Kinds.{is_place}
use Rattle.terms.specs.Orders.{side_from}
use Rattle.places.specs.Places.{is_taken}
use Rattle.book.specs.declared.{Book.Book, Values.Values}
use Rattle.quotes.specs.declared.{Pair.Pair}
use Rattle.book.specs.Groups.{first-nowhere, first-is}
use Rattle.book.specs.Hints.{both, never}
use Rattle.quotes.specs.Quotes.{is_quote_in, quote_place_in, emptied, requoted}
use Rattle.book.specs.Sound.{SoundBook, same_or_not}

-- members that are as far apart share a hint
abbrev pub quote_hints : ℕ
quote_hints = 4096

-- the hint of a member: 0, or a place plus one
abbrev pub hint_of : List ℕ → ℕ → ℕ
hint_of hints member = get_or hints (member % quote_hints) 0

-- of the first n places, one that holds a side of a quote has a hint for its member
abbrev pub KnownTo : (quoted members sides hints : List ℕ) (side n : ℕ) → Type 0
KnownTo quoted members sides hints side n = (p : ℕ) → p < n → get_or quoted p 0 ≡ 1 → get_or sides p 0 ≡ side → hint_of hints (get_or members p 0) ≢ 0

-- a table whose 0 is true: no side of such a member's quotes rests on this side of the book
pub record Hinted (quoted members sides hints : List ℕ) (side : ℕ) : Type 0 where
  pub sized : length hints ≡ quote_hints
  pub known : KnownTo quoted members sides hints side places

-- K2b over the columns: of each member's quotes at most one bid and one ask rest
abbrev pub OneQuoteIn : (quoted members sides : List ℕ) → Type 0
OneQuoteIn quoted members sides =
    (p q : ℕ) → p < places → q < places → get_or quoted p 0 ≡ 1 → get_or quoted q 0 ≡ 1 → get_or members p 0 ≡ get_or members q 0 → get_or sides p 0 ≡ get_or sides q 0 → p ≡ q

pub sound-one-quote : (legal : ℕ → Bool) (given : ℕ) (b : Book) → SoundBook legal given b → OneQuoteIn b.quoted b.member b.side
sound-one-quote legal given b sound p q h k marked marked' member side =
    sound.one-quote p q h k (taken p h marked) (taken q k marked') (record { first = eq-eqb _ 1 marked; second = eq-eqb _ 1 marked'; member = member; side = ap side_from side })
  where
    -- a free place has the mark 0
    taken : (p : ℕ) → p < places → get_or b.quoted p 0 ≡ 1 → is_taken b.taken p ≡ true
    taken p h marked = go (is_taken b.taken p) refl
      where
        go : (t : Bool) → is_taken b.taken p ≡ t → t ≡ true
        go true e = refl
        go false e = let zero-mark = ap (λ (r : Values). r.quoted) ((sound.each p h).free e) in absurd (omega arith)

-- a store of 0, and one of another number
set-zero : (l : List ℕ) (i : ℕ) → get_or (set l i 0) i 0 ≡ 0
set-zero [] i = refl
set-zero (x ∷ xs) zero = refl
set-zero (x ∷ xs) (suc i) = set-zero xs i

set-some : (l : List ℕ) (i j x : ℕ) → x ≢ 0 → get_or l j 0 ≢ 0 → get_or (set l i x) j 0 ≢ 0
set-some [] i j x n m = m
set-some (y ∷ ys) zero zero x n m = n
set-some (y ∷ ys) zero (suc j) x n m = m
set-some (y ∷ ys) (suc i) zero x n m = m
set-some (y ∷ ys) (suc i) (suc j) x n m = set-some ys i j x n m

emptied-length : (column : List ℕ) (place : ℕ) → length (emptied 0 column place) ≡ length column
emptied-length column place = go (is_place place)
  where
    go : (t : Bool) → length (cond t (set column place 0) column) ≡ length column
    go true = simp length-set
    go false = refl

-- the table with a hint for a member: whatever its place, it isn't 0
module _ (hints : List ℕ) (m place : ℕ) where
  hint-new : length hints ≡ quote_hints → hint_of (set hints (m % quote_hints) (place + 1)) m ≢ 0
  hint-new sized e = let same = get_or-set_same hints (m % quote_hints) (place + 1) 0 (omega arith) in omega arith

  hint-stays : (member : ℕ) → hint_of hints member ≢ 0 → hint_of (set hints (m % quote_hints) (place + 1)) member ≢ 0
  hint-stays member = set-some hints (m % quote_hints) (member % quote_hints) (place + 1) (λ e. omega arith)

-- The table made anew: a place more has its hint, or needs none.
module _ (quoted members sides : List ℕ) (side place : ℕ) where
  known_more : (hints : List ℕ) → KnownTo quoted members sides hints side place → (get_or quoted place 0 ≡ 1 → get_or sides place 0 ≡ side → hint_of hints (get_or members place 0) ≢ 0)
      → KnownTo quoted members sides hints side (place + 1)
  known_more hints known here p h marked on-side =
      ⊎_elim
      (λ i. rw i (here (rw i at marked) (rw i at on-side)))
      (λ n. known p (omega arith) marked on-side)
      (same_or_not p place)

  pub known-hinted : (hints : List ℕ) → length hints ≡ quote_hints → KnownTo quoted members sides hints side place
      → KnownTo quoted members sides (set hints (get_or members place 0 % quote_hints) (place + 1)) side (place + 1)
  known-hinted hints sized known =
      known_more (set hints (get_or members place 0 % quote_hints) (place + 1))
      (λ p h marked on-side. hint-stays hints (get_or members place 0) place (get_or members p 0) (known p h marked on-side))
      (λ marked on-side. hint-new hints (get_or members place 0) place sized)

  pub known-passed : (hints : List ℕ) → KnownTo quoted members sides hints side place → (eqb (get_or quoted place 0) 1 && eqb (get_or sides place 0) side) ≡ false
      → KnownTo quoted members sides hints side (place + 1)
  known-passed hints known neither =
      known_more hints known (λ marked on-side. absurd (true≢false (sym (rw (eq-eqb _ 1 marked, eq-eqb _ side on-side)) ∙ neither)))

-- What keeps a table true.
module _ {quoted members sides hints : List ℕ} {side : ℕ} (before : Hinted quoted members sides hints side) where
  -- other values at a place, where a mark there has its hint
  hinted-at : (place x m s : ℕ) → (place < places → get_or (set quoted place x) place 0 ≡ 1 → hint_of hints (get_or (set members place m) place 0) ≢ 0)
      → Hinted (set quoted place x) (set members place m) (set sides place s) hints side
  hinted-at place x m s here = record { sized = before.sized; known = known }
    where
      known : KnownTo (set quoted place x) (set members place m) (set sides place s) hints side places
      known p h marked on-side =
          ⊎_elim
          (λ i. rw i (here (omega arith) (rw i at marked)))
          (λ n. rw (get_or-set_other members place p m 0 n) (before.known p h (rw (get_or-set_other quoted place p x 0 n) at marked) (rw (get_or-set_other sides place p s 0 n) at on-side)))
          (same_or_not p place)

  -- .. that is no side of a quote, or is free
  pub hinted-plain : (place m s : ℕ) → Hinted (set quoted place 0) (set members place m) (set sides place s) hints side
  hinted-plain place m s = hinted-at place 0 m s (λ h marked. absurd (let none = set-zero quoted place in omega arith))

  hinted-emptied : (place : ℕ) → Hinted (emptied 0 quoted place) (emptied 0 members place) (emptied 0 sides place) hints side
  hinted-emptied place = go (is_place place)
    where
      go : (t : Bool) → Hinted (cond t (set quoted place 0) quoted) (cond t (set members place 0) members) (cond t (set sides place 0) sides) hints side
      go true = hinted-plain place 0 0
      go false = before

  -- .. of a member that has a hint
  hinted-put : length members ≡ places → (place x m s : ℕ) → hint_of hints m ≢ 0 → Hinted (set quoted place x) (set members place m) (set sides place s) hints side
  hinted-put sized place x m s some-hint = hinted-at place x m s (λ h marked. rw (get_or-set_same members place m 0 (omega arith)) some-hint)

  -- a hint more
  hinted-more : (m place : ℕ) → Hinted quoted members sides (set hints (m % quote_hints) (place + 1)) side
  hinted-more m place = record {
    sized = rw length-set before.sized;
    known = λ p h marked on-side. hint-stays hints m place (get_or members p 0) (before.known p h marked on-side);
  }

-- A quote in place of the old one, with a hint for its member.
pub hinted-requoted : {quoted members sides hints : List ℕ} {side : ℕ} → Hinted quoted members sides hints side → length members ≡ places → (old fresh : Pair) (m place : ℕ)
    → Hinted (requoted 0 quoted old fresh 1 1) (requoted 0 members old fresh m m) (requoted 0 sides old fresh 1 2) (set hints (m % quote_hints) (place + 1)) side
unfolding requoted
hinted-requoted {quoted} {members} {sides} {hints} {side} before sized old fresh m place =
    hinted-put (hinted-put (hinted-emptied (hinted-emptied (hinted-more before m place) old.bid) old.ask) emptied-sized fresh.bid 1 m 1 new)
    (simp length-set emptied-sized) fresh.ask 1 m 2 new
  where
    new : hint_of (set hints (m % quote_hints) (place + 1)) m ≢ 0
    new = hint-new hints m place before.sized

    emptied-sized : length (emptied 0 (emptied 0 members old.bid) old.ask) ≡ places
    emptied-sized = emptied-length (emptied 0 members old.bid) old.ask ∙ emptied-length members old.bid ∙ sized

-- Where a side of the member's quotes rests.
module _ (quoted members sides : List ℕ) (member side : ℕ) where
  abbrev sought : ℕ → Bool
  sought = is_quote_in quoted members sides member side

  parts : (p : ℕ) → sought p ≡ true → (get_or quoted p 0 ≡ 1) × (get_or members p 0 ≡ member) × (get_or sides p 0 ≡ side)
  parts p e =
      let t = both (eqb (get_or quoted p 0) 1) (eqb (get_or members p 0) member) (eqb (get_or sides p 0) side) e in
      (eqb-true (get_or quoted p 0) 1 t.0, eqb-true (get_or members p 0) member t.1, eqb-true (get_or sides p 0) side t.2)

  -- hint 0: nowhere
  pub quote-nowhere : (hints : List ℕ) → Hinted quoted members sides hints side → hint_of hints member ≡ 0 → places ≡ quote_place_in quoted members sides member side 0 places
  quote-nowhere hints known none =
      sym (first-nowhere sought places 0 (λ p k l. never (sought p) (λ e.
      let (marked, of-member, on-side) = parts p e in known.known p (omega arith) marked on-side (rw of-member none))))

  -- a place that holds it: there
  pub quote-at : OneQuoteIn quoted members sides → (place : ℕ) → place < places → sought place ≡ true → place ≡ quote_place_in quoted members sides member side 0 places
  quote-at once place here found =
      let (marked, of-member, on-side) = parts place found in
      sym (first-is sought places place here found (λ q l. never (sought q) (λ e.
      let (marked', of-member', on-side') = parts q e in
      omega (arith, once q place (omega arith) here marked' marked (of-member' ∙ sym of-member) (on-side' ∙ sym on-side)))))
