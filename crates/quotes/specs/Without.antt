-- The book without a member's quote: what of it stays where it is, that it is sound, and that no side of the quote is left (02 K2).
use Rattle.std.specs.Prelude.{ℕ, ◌<◌, Bool, true, false, cond, ◌&&◌, ◌≢◌, ◌↔◌, ◌≡◌, refl, T, eqb, get_or}
use Rattle.std.proofs.Common.{true≢false, ⊎_elim, sym, ap, subst, ◌∙◌, arith, eqb-true, ltb-true, lt-ltb}
use Rattle.lists.specs.Tests.{passes, and_both, and_intro}
use Rattle.lists.specs.Sums.{◌∈◌}
use Rattle.lists.specs.Choice.{any-intro}
use Rattle.terms.specs.Bounds.{places}
use Rattle.terms.specs.Kinds.{is_place}
use Rattle.terms.specs.Orders.{Resting, side_number, side_from}
use Rattle.terms.specs.Sides.{same_side}
use Rattle.terms.proofs.Sides.{same_side-eq, same_side-refl, same_side-number}
use Rattle.terms.specs.declared.orders.{Side.Side, Side.TheVariants.Buy, Side.TheVariants.Sell}
use Rattle.book.specs.declared.{Book.Book, Values.Values}
use Rattle.quotes.specs.declared.{Pair.Pair}
use Rattle.places.specs.Places.{is_taken, unmarked, unmarked_at}
use Rattle.book.specs.Columns.{values_of, order_from, order_at, stored, cleared}
use Rattle.book.specs.Resting.{resting, rests_as, place_of, first-same}
use Rattle.book.specs.ByPlace.{resting-elim, resting-intro, any-resting, place_found}
use Rattle.book.specs.Writing.{Sized, SameAt, cleared-free, cleared-elsewhere}
use Rattle.book.specs.Sound.{SoundBook, SameQuote, same_or_not, cleared-sound}
use Rattle.quotes.specs.Quotes.{is_quote_of, is_quote_side_of, cleared_at, without_pair, without_quote, is_quote_in, quote_place_in, requoted, requoted_words, requoted_book}

-- A place cleared, where it is one: it is free, and all others are as before.
module _ (b : Book) (place : ℕ) where
  -- by whether it is one
  cleared-at-cases : (P : Book → Type 0) → (place < places → P (cleared b place)) → P b → P (cleared_at b place)
  cleared-at-cases P here not-here = go (is_place place) refl
    where
      go : (t : Bool) → is_place place ≡ t → P (cond t (cleared b place) b)
      go true e = here (ltb-true place places e)
      go false e = not-here

  pub cleared-at-sound : (legal : ℕ → Bool) (given : ℕ) → SoundBook legal given b → SoundBook legal given (cleared_at b place)
  cleared-at-sound legal given sound = cleared-at-cases (SoundBook legal given) (cleared-sound legal given b sound place) sound

  module _ (sized : Sized b) where
    pub cleared-at-elsewhere : (p : ℕ) → p ≢ place → SameAt (cleared_at b place) b p
    cleared-at-elsewhere p n = cleared-at-cases (λ c. SameAt c b p) (λ h. cleared-elsewhere b sized place h p n) (refl, refl)

    cleared-at-free : place < places → is_taken (cleared_at b place).taken place ≡ false
    cleared-at-free h = rw (lt-ltb place places h) (cleared-free b sized place h)

    -- a free place stays free
    cleared-at-stays : (p : ℕ) → p < places → is_taken b.taken p ≡ false → is_taken (cleared_at b place).taken p ≡ false
    cleared-at-stays p h e =
        ⊎_elim
        (λ i. subst (λ (x : ℕ). is_taken (cleared_at b place).taken x ≡ false) (sym i) (cleared-at-free (omega arith)))
        (λ n. (cleared-at-elsewhere p n).0 ∙ e)
        (same_or_not p place)

-- the words of the book without a pair
cleared-at-taken : (b : Book) (place : ℕ) → (cleared_at b place).taken ≡ unmarked_at b.taken place
unfolding cleared
cleared-at-taken b place = go (is_place place)
  where
    go : (t : Bool) → (cond t (cleared b place) b).taken ≡ cond t (unmarked b.taken place) b.taken
    go true = refl
    go false = refl

pub without-taken : (b : Book) (old : Pair) → (without_pair b old).taken ≡ unmarked_at (unmarked_at b.taken old.bid) old.ask
without-taken b old = cleared-at-taken (cleared_at b old.bid) old.ask ∙ ap (λ ws. unmarked_at ws old.ask) (cleared-at-taken b old.bid)

-- The columns with the new sides put in place of the old ones are the book without these, with those stored.
pub requoted-stored : (b : Book) (old fresh : Pair) (o x : Resting) → fresh.bid < places → fresh.ask < places
    → requoted_book b old fresh (values_of o) (values_of x) ≡ stored (stored (without_pair b old) fresh.bid o) fresh.ask x
unfolding requoted requoted_words stored cleared
requoted-stored b old fresh o x h k = go (is_place old.bid) refl (is_place old.ask) refl
  where
    first : is_place fresh.bid ≡ true
    first = lt-ltb fresh.bid places h

    second : is_place fresh.ask ≡ true
    second = lt-ltb fresh.ask places k

    go : (s : Bool) → is_place old.bid ≡ s → (t : Bool) → is_place old.ask ≡ t
        → requoted_book b old fresh (values_of o) (values_of x) ≡ stored (stored (without_pair b old) fresh.bid o) fresh.ask x
    go true e true f = rw (e, f, first, second)
    go true e false f = rw (e, f, first, second)
    go false e true f = rw (e, f, first, second)
    go false e false f = rw (e, f, first, second)

module _ (legal : ℕ → Bool) (given : ℕ) (b : Book) (sound : SoundBook legal given b) (member : ℕ) where
  -- a side stands where the columns say
  module _ (side : Side) where
    said : (p : ℕ) → p < places → is_quote_in b.quoted b.member b.side member (side_number side) p ≡ rests_as (is_quote_side_of member side) b p
    said p h = go (is_taken b.taken p) refl
      where
        go : (t : Bool) → is_taken b.taken p ≡ t → is_quote_in b.quoted b.member b.side member (side_number side) p ≡ (t && is_quote_side_of member side (order_at b p))
        go false e = rw (ap (λ (r : Values). r.quoted) ((sound.each p h).free e))
        go true e =
            let is : eqb (get_or b.side p 0) (side_number side) ≡ same_side (side_from (get_or b.side p 0)) side =
            ap (λ (n : ℕ). eqb n (side_number side)) (sym (ap (λ (r : Values). r.side) ((sound.each p h).coded e))) ∙ same_side-number (side_from (get_or b.side p 0)) side in
            rw is (assoc (eqb (get_or b.quoted p 0) 1) (eqb (get_or b.member p 0) member) _)
          where
            assoc : (x y z : Bool) → (x && (y && z)) ≡ ((x && y) && z)
            assoc true y z = refl
            assoc false y z = refl

    pub quote-place-in : quote_place_in b.quoted b.member b.side member (side_number side) 0 places ≡ place_of (is_quote_side_of member side) b
    quote-place-in = first-same (is_quote_in b.quoted b.member b.side member (side_number side)) (rests_as (is_quote_side_of member side) b) places 0 (λ p h k. said p (omega arith))

    -- no other place holds that side
    pub only-quote-place : (p : ℕ) → p < places → is_taken b.taken p ≡ true → T (is_quote_side_of member side (order_at b p)) → p ≡ place_of (is_quote_side_of member side) b
    only-quote-place p h e t =
        let some-place : place_of (is_quote_side_of member side) b < places =
        ltb-true _ places (sym (any-resting (is_quote_side_of member side) b) ∙ passes _ (any-intro (is_quote_side_of member side) (resting-intro b places p h e) t)) in
        let (taken, found) = place_found (is_quote_side_of member side) b some-place in
        sound.one-quote p _ h some-place e taken (alike (order_at b p) (order_at b (place_of (is_quote_side_of member side) b)) t found)
      where
        alike : (o x : Resting) → T (is_quote_side_of member side o) → T (is_quote_side_of member side x) → SameQuote o x
        alike o x s t =
            let (of-o, side-o) = and_both (is_quote_of member o) _ s in
            let (of-x, side-x) = and_both (is_quote_of member x) _ t in
            let (quoted-o, member-o) = and_both o.quoted _ of-o in
            let (quoted-x, member-x) = and_both x.quoted _ of-x in
            record {
              first = passes o.quoted quoted-o;
              second = passes x.quoted quoted-x;
              member = eqb-true o.member member (passes _ member-o) ∙ sym (eqb-true x.member member (passes _ member-x));
              side = same_side-eq o.side side side-o ∙ sym (same_side-eq x.side side side-x);
            }

  abbrev bid-place : ℕ
  bid-place = place_of (is_quote_side_of member Buy) b

  abbrev ask-place : ℕ
  ask-place = place_of (is_quote_side_of member Sell) b

  -- K2c: what stood elsewhere stands there still
  pub without-elsewhere : (p : ℕ) → p ≢ bid-place → p ≢ ask-place → SameAt (without_quote member b) b p
  without-elsewhere p n m =
      let (taken, raw) = cleared-at-elsewhere b bid-place sound.sized p n in
      let (taken', raw') = cleared-at-elsewhere (cleared_at b bid-place) ask-place (cleared-at-sound b bid-place legal given sound).sized p m in
      (taken' ∙ taken, raw' ∙ raw)

  pub without-sound : SoundBook legal given (without_quote member b)
  without-sound = cleared-at-sound (cleared_at b bid-place) ask-place legal given (cleared-at-sound b bid-place legal given sound)

  -- a taken place of it is neither of the two
  pub still-taken : (p : ℕ) → p < places → is_taken (without_quote member b).taken p ≡ true → (p ≢ bid-place) × (p ≢ ask-place)
  still-taken p h e = (
    (λ i. true≢false (sym e ∙ cleared-at-stays (cleared_at b bid-place) ask-place first-sized p h (subst (λ (x : ℕ). is_taken (cleared_at b bid-place).taken x ≡ false) (sym i) (cleared-at-free b bid-place sound.sized (omega arith))))),
    (λ i. true≢false (sym e ∙ subst (λ (x : ℕ). is_taken (without_quote member b).taken x ≡ false) (sym i) (cleared-at-free (cleared_at b bid-place) ask-place first-sized (omega arith)))),
  )
    where
      first-sized : Sized (cleared_at b bid-place)
      first-sized = (cleared-at-sound b bid-place legal given sound).sized

  -- a side of the member's quotes is its bid or its ask
  on-a-side : (o : Resting) → T (is_quote_of member o) → T (is_quote_side_of member o.side o)
  on-a-side o t = and_intro (is_quote_of member o) _ t (same_side-refl o.side)

  by_side : (side : Side) (p : ℕ) → p ≡ place_of (is_quote_side_of member side) b → p ≢ bid-place → p ≢ ask-place → ⊥
  by_side Buy p i n m = n i
  by_side Sell p i n m = m i

  -- none is left
  pub none-quoted : (p : ℕ) → p < places → is_taken (without_quote member b).taken p ≡ true → T (is_quote_of member (order_at (without_quote member b) p)) → ⊥
  none-quoted p h e t =
      let (n, m) = still-taken p h e in
      let (taken, raw) = without-elsewhere p n m in
      let o = order_at b p in
      let t' : T (is_quote_of member o) = subst (λ (r : Values). T (is_quote_of member (order_from r))) raw t in
      by_side o.side p (only-quote-place o.side p h (sym taken ∙ e) (on-a-side o t')) n m

  -- What rests is what rested, but for the sides of the member's quote.
  pub without-resting : (x : Resting) → (x ∈ resting (without_quote member b)) ↔ ((x ∈ resting b) × (T (is_quote_of member x) → ⊥))
  without-resting x = (to, back)
    where
      to : x ∈ resting (without_quote member b) → (x ∈ resting b) × (T (is_quote_of member x) → ⊥)
      to m =
          let s = resting-elim (without_quote member b) places m in
          let (n, k) = still-taken s.place s.below s.taken in
          let (taken, raw) = without-elsewhere s.place n k in (
            subst (λ (y : Resting). y ∈ resting b) (sym (s.is ∙ ap order_from raw)) (resting-intro b places s.place s.below (sym taken ∙ s.taken)),
            (λ t. none-quoted s.place s.below s.taken (subst (λ (y : Resting). T (is_quote_of member y)) s.is t)),
          )

      back : (x ∈ resting b) × (T (is_quote_of member x) → ⊥) → x ∈ resting (without_quote member b)
      back (m, not-quoted) =
          let s = resting-elim b places m in
          let n : s.place ≢ bid-place = λ i. not-quoted (subst (λ (y : Resting). T (is_quote_of member y)) (sym s.is) (of-side Buy s.place s.below i)) in
          let k : s.place ≢ ask-place = λ i. not-quoted (subst (λ (y : Resting). T (is_quote_of member y)) (sym s.is) (of-side Sell s.place s.below i)) in
          let (taken, raw) = without-elsewhere s.place n k in
          subst (λ (y : Resting). y ∈ resting (without_quote member b)) (sym (s.is ∙ ap order_from (sym raw))) (resting-intro (without_quote member b) places s.place s.below (taken ∙ s.taken))
        where
          of-side : (side : Side) (p : ℕ) → p < places → p ≡ place_of (is_quote_side_of member side) b → T (is_quote_of member (order_at b p))
          of-side side p h i =
              let (taken, found) = place_found (is_quote_side_of member side) b (omega arith) in
              subst (λ (q : ℕ). T (is_quote_of member (order_at b q))) (sym i) (and_both (is_quote_of member (order_at b (place_of (is_quote_side_of member side) b))) _ found).0
