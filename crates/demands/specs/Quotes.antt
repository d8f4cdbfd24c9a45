-- An accepted quote (02 K2): what rests afterwards (K2a), and that all other orders stay where they are (K2c).
use Rattle.std.specs.Prelude.{ℕ, ◌+◌, ◌≤◌, ◌<◌, Bool, true, false, not, ◌&&◌, ◌⊎◌, ◌↔◌, ◌≢◌, ◌≡◌, refl, T, ltb}
use Rattle.std.proofs.Common.{true≢false, inl, inr, ⊎_elim, ap, subst, ◌∙◌, arith}
use Rattle.std.proofs.Math.Path.{sym}
use Rattle.lists.specs.Tests.{tests, decided, and_both}
use Rattle.lists.specs.Sums.{◌∈◌}
use Rattle.terms.specs.Bounds.{places}
use Rattle.terms.specs.Kinds.{is_quantity, is_price}
use Rattle.terms.specs.Orders.{Resting, limit_number}
use Rattle.terms.specs.declared.orders.{Side.Side, Side.TheVariants.Buy, Side.TheVariants.Sell, Validity.Validity}
use Rattle.terms.specs.declared.quote_terms.{SideEntry.SideEntry, QuoteEntry.QuoteEntry}
use Rattle.places.specs.Places.{is_taken}
use Rattle.places.specs.Words.{lowest-free-clear, lowest-free-least}
use Rattle.book.specs.Columns.{order_from, order_at}
use Rattle.book.specs.Resting.{resting, place_of}
use Rattle.book.specs.ByPlace.{resting-elim, resting-intro, place_found}
use Rattle.quotes.specs.Quotes.{is_quote_of, is_quote_side_of}
use Rattle.book.specs.Writing.{SameAt, stored-taken, stored-order, stored-elsewhere}
use Rattle.book.specs.Sound.{SoundBook, same_or_not}
use Rattle.quotes.specs.Without.{without-elsewhere, without-sound, without-resting}
use Rattle.book.specs.Additions.{stored-resting}
use Rattle.refusals.specs.Checks.{first_hit, answered-done}
use Rattle.session.specs.declared.{Session.Session}
use Rattle.session.specs.Sound.{legal_price, Sound}
use Rattle.quotation.specs.declared.Quoted.{Quoted}
use Rattle.quotation.specs.Quote.{book_without, quote_checks, bid_entered, ask_entered, bid_place, book_with_bid, ask_place, book_with_quote, quoted_session, quote_refused, quote_done, quoted}
use Rattle.quotation.specs.QuoteSound.{AcceptedQuote, accepted-quote, quote-fields, with-bid, bid-back}
use Rattle.demands.specs.Answers.{quote-answer}
use Rattle.demands.specs.Sequences.{RestsAt}

-- a side of a quote as it is entered: under its number, each field as the entry has it, of validity day, and marked as a side of a quote
pub record SideAsAsked (number owner : ℕ) (way : Side) (e : SideEntry) (o : Resting) : Type 0 where
  pub numbered : o.number ≡ number
  pub member : o.member ≡ owner
  pub side : o.side ≡ way
  pub validity : o.validity ≡ Validity.Day
  pub left : o.left ≡ e.quantity
  pub limit : limit_number o.limit ≡ e.limit
  pub marked : o.quoted ≡ true

-- the order at a place stays: the place is taken, and by no side of the member's quote
abbrev pub stays : Session → QuoteEntry → ℕ → Bool
stays s e p = is_taken s.book.taken p && not (is_quote_of e.member (order_at s.book p))

-- the two lowest places whose orders don't stay, as they are free once the member's old quote is gone
pub record TwoLowest (s : Session) (e : QuoteEntry) (first second : ℕ) : Type 0 where
  pub in_order : first < second
  pub room : second < places
  pub first-free : stays s e first ≡ false
  pub second-free : stays s e second ≡ false
  pub no_lower : (p : ℕ) → p < second → p ≢ first → stays s e p ≡ true

-- An accepted quote: its two numbers, its two orders as asked for, and the session after it.
pub record QuoteEntered (s : Session) (e : QuoteEntry) : Type 0 where
  pub numbers : ((quoted s e).bid ≡ s.given + 1) × ((quoted s e).ask ≡ s.given + 2)
  pub bid-asked : SideAsAsked (s.given + 1) e.member Buy e.bid (bid_entered s e)
  pub ask-asked : SideAsAsked (s.given + 2) e.member Sell e.ask (ask_entered s e)
  pub session-after : (quoted s e).session ≡ quoted_session s e
  -- K2a: those that rested, without the sides of the member's quote, and the two new orders, at the two lowest places so free
  pub rests : (x : Resting) → (x ∈ resting (book_with_quote s e)) ↔ (((x ∈ resting s.book) × (T (is_quote_of e.member x) → ⊥)) ⊎ (x ≡ bid_entered s e) ⊎ (x ≡ ask_entered s e))
  pub bid-at : RestsAt (book_with_quote s e) (bid_place s e) (bid_entered s e)
  pub ask-at : RestsAt (book_with_quote s e) (ask_place s e) (ask_entered s e)
  pub lowest : TwoLowest s e (bid_place s e) (ask_place s e)
  -- K2c: every other order, of the member and of everyone else, stays where it is
  pub elsewhere : (p : ℕ) (o : Resting) → RestsAt s.book p o → (T (is_quote_of e.member o) → ⊥) → RestsAt (book_with_quote s e) p o
  -- .. and every other place is free
  pub free-elsewhere : (p : ℕ) → p < places → stays s e p ≡ false → p ≢ bid_place s e → p ≢ ask_place s e → is_taken (book_with_quote s e).taken p ≡ false

module _ (s : Session) (sound : Sound s) (e : QuoteEntry) where
  without : SoundBook (legal_price s) s.given (book_without s e)
  without = without-sound (legal_price s) s.given s.book sound.book-sound e.member

  -- a place that holds no side of the member's quote is none of the two where they are found
  not_found : (side : Side) (p : ℕ) → p < places → (is_taken s.book.taken p ≡ true → T (is_quote_of e.member (order_at s.book p)) → ⊥) → p ≢ place_of (is_quote_side_of e.member side) s.book
  not_found side p h none i =
      let test = is_quote_side_of e.member side in
      let (taken, found) = place_found test s.book (omega arith) in
      let place = place_of test s.book in
      none (ap (is_taken s.book.taken) i ∙ taken)
      (subst (λ (q : ℕ). T (is_quote_of e.member (order_at s.book q))) (sym i) (and_both (is_quote_of e.member (order_at s.book place)) _ found).0)

  as_before : (p : ℕ) → p < places → (is_taken s.book.taken p ≡ true → T (is_quote_of e.member (order_at s.book p)) → ⊥) → SameAt (book_without s e) s.book p
  as_before p h none = without-elsewhere (legal_price s) s.given s.book sound.book-sound e.member p (not_found Buy p h none) (not_found Sell p h none)

  -- a place that is taken without the old quote held no side of it
  none-held : (p : ℕ) → p < places → is_taken (book_without s e).taken p ≡ true → T (is_quote_of e.member (order_at s.book p)) → ⊥
  none-held p h taken t =
      let x = order_at (book_without s e) p in
      let (m, none) = (without-resting (legal_price s) s.given s.book sound.book-sound e.member x).0 (resting-intro (book_without s e) places p h taken) in
      let at = resting-elim s.book places m in
      let none-there : T (is_quote_of e.member (order_at s.book at.place)) → ⊥ = subst (λ (y : Resting). T (is_quote_of e.member y) → ⊥) at.is none in
      let (taken', raw) = as_before at.place at.below (λ i. none-there) in
      let same : p ≡ at.place =
      without.once p at.place h at.below taken (taken' ∙ at.taken) (ap (λ (y : Resting). y.number) (at.is ∙ sym (ap order_from raw))) in
      none-there (subst (λ (q : ℕ). T (is_quote_of e.member (order_at s.book q))) same t)

  -- K2a, of the room that refusal 10 and the places are about: the places taken without the member's old quote are those whose orders stay
  pub without-stays : (p : ℕ) → p < places → is_taken (book_without s e).taken p ≡ stays s e p
  without-stays p h = go (is_taken s.book.taken p) refl (is_quote_of e.member (order_at s.book p)) refl
    where
      go : (t : Bool) → is_taken s.book.taken p ≡ t → (u : Bool) → is_quote_of e.member (order_at s.book p) ≡ u → is_taken (book_without s e).taken p ≡ (t && not u)
      go false i u j = (as_before p h (λ k. absurd (true≢false (sym k ∙ i)))).0 ∙ i
      go true i false j = (as_before p h (λ k t. rw j at t)).0 ∙ i
      go true i true j = gone (is_taken (book_without s e).taken p) refl
        where
          gone : (t : Bool) → is_taken (book_without s e).taken p ≡ t → t ≡ false
          gone false k = refl
          gone true k = absurd (none-held p h k (rw j tt))

  module _ (ok : AcceptedQuote s e) where
    with-bid-sound : SoundBook (legal_price s) (s.given + 1) (book_with_bid s e)
    with-bid-sound = with-bid s sound e ok

    bid-limit : T (is_price e.bid.limit)
    bid-limit = (and_both (is_quantity e.bid.quantity) _ (quote-fields e ok.in-range).bid).1

    ask-limit : T (is_price e.ask.limit)
    ask-limit = (and_both (is_quantity e.ask.quantity) _ (quote-fields e ok.in-range).ask).1

    bid-taken : is_taken (book_with_bid s e).taken (bid_place s e) ≡ true
    bid-taken = stored-taken (book_without s e) without.sized (bid_place s e) ok.bid-room (bid_entered s e)

    bid-free : is_taken (book_without s e).taken (bid_place s e) ≡ false
    bid-free = lowest-free-clear (book_without s e).taken ok.bid-room

    ask-free : is_taken (book_with_bid s e).taken (ask_place s e) ≡ false
    ask-free = lowest-free-clear (book_with_bid s e).taken ok.ask-room

    apart : bid_place s e ≢ ask_place s e
    apart i = true≢false (sym bid-taken ∙ ap (is_taken (book_with_bid s e).taken) i ∙ ask-free)

    -- what each of the two leaves at the other places
    beside-bid : (p : ℕ) → p ≢ bid_place s e → SameAt (book_with_bid s e) (book_without s e) p
    beside-bid = stored-elsewhere (book_without s e) without.sized (bid_place s e) ok.bid-room (bid_entered s e)

    beside-ask : (p : ℕ) → p ≢ ask_place s e → SameAt (book_with_quote s e) (book_with_bid s e) p
    beside-ask = stored-elsewhere (book_with_bid s e) with-bid-sound.sized (ask_place s e) ok.ask-room (ask_entered s e)

    ask-free-before : is_taken (book_without s e).taken (ask_place s e) ≡ false
    ask-free-before = sym (beside-bid (ask_place s e) (λ i. apart (sym i))).0 ∙ ask-free

    two-lowest : TwoLowest s e (bid_place s e) (ask_place s e)
    two-lowest = record {
      in_order = ⊎_elim (λ k. omega tests) (λ k. absurd (not-below (omega tests))) (decided (ltb (bid_place s e) (ask_place s e)));
      room = ok.ask-room;
      first-free = sym (without-stays (bid_place s e) ok.bid-room) ∙ bid-free;
      second-free = sym (without-stays (ask_place s e) ok.ask-room) ∙ ask-free-before;
      no_lower = λ p h n. sym (without-stays p (omega (arith, ok.ask-room))) ∙ sym (beside-bid p n).0 ∙ lowest-free-least (book_with_bid s e).taken p h;
    }
      where
        not-below : ask_place s e ≤ bid_place s e → ⊥
        not-below h =
            ⊎_elim
            (λ i. apart (sym i))
            (λ n. true≢false (sym (lowest-free-least (book_without s e).taken (ask_place s e) (omega (arith, n))) ∙ ask-free-before))
            (same_or_not (ask_place s e) (bid_place s e))

    rests-after : (x : Resting) → (x ∈ resting (book_with_quote s e)) ↔ (((x ∈ resting s.book) × (T (is_quote_of e.member x) → ⊥)) ⊎ (x ≡ bid_entered s e) ⊎ (x ≡ ask_entered s e))
    rests-after x =
        let (out, back) = without-resting (legal_price s) s.given s.book sound.book-sound e.member x in
        let (out', back') = stored-resting (book_without s e) without.sized (bid_place s e) ok.bid-room bid-free (bid_entered s e) bid-limit x in
        let (out'', back'') = stored-resting (book_with_bid s e) with-bid-sound.sized (ask_place s e) ok.ask-room ask-free (ask_entered s e) ask-limit x in (
          (λ m. ⊎_elim (λ k. ⊎_elim (λ l. inl (out l)) (λ i. inr (inl i)) (out' k)) (λ i. inr (inr i)) (out'' m)),
          ⊎_elim (λ k. back'' (inl (back' (inl (back k))))) (⊎_elim (λ i. back'' (inl (back' (inr i)))) (λ i. back'' (inr i))),
        )

    quoted-after : 0 ≡ first_hit (quote_checks s e) → quoted s e ≡ quote_done s e
    unfolding quoted
    quoted-after h = sym (answered-done (quote_checks s e) (quote_refused s) (quote_done s e) h)

    entered-as-told : 0 ≡ first_hit (quote_checks s e) → QuoteEntered s e
    entered-as-told h =
        let done = quoted-after h in
        record {
          numbers = (ap (λ (r : Quoted Session). r.bid) done, ap (λ (r : Quoted Session). r.ask) done);
          bid-asked = record { numbered = refl; member = refl; side = refl; validity = refl; left = refl; limit = refl; marked = refl };
          ask-asked = record { numbered = refl; member = refl; side = refl; validity = refl; left = refl; limit = refl; marked = refl };
          session-after = ap (λ (r : Quoted Session). r.session) done;
          rests = rests-after;
          bid-at = let (taken, raw) = beside-ask (bid_place s e) apart in (ok.bid-room, taken ∙ bid-taken, sym (ap order_from raw ∙ bid-back s sound e ok));
          ask-at = (
            ok.ask-room,
            stored-taken (book_with_bid s e) with-bid-sound.sized (ask_place s e) ok.ask-room (ask_entered s e),
            sym (stored-order (book_with_bid s e) with-bid-sound.sized (ask_place s e) ok.ask-room (ask_entered s e) ask-limit),
          );
          lowest = two-lowest;
          elsewhere = λ p o (room, was, is) none.
              let (taken, raw) = as_before p room (λ i t. none (subst (λ (y : Resting). T (is_quote_of e.member y)) (sym is) t)) in
              let (taken', raw') = beside-both p (not_at p (taken ∙ was) bid-free) (not_at p (taken ∙ was) ask-free-before) in
              (room, taken' ∙ taken ∙ was, is ∙ sym (ap order_from (raw' ∙ raw)));
          free-elsewhere = λ p h k n m. (beside-both p n m).0 ∙ without-stays p h ∙ k;
        }
      where
        beside-both : (p : ℕ) → p ≢ bid_place s e → p ≢ ask_place s e → SameAt (book_with_quote s e) (book_without s e) p
        beside-both p n m =
            let (taken, raw) = beside-bid p n in
            let (taken', raw') = beside-ask p m in
            (taken' ∙ taken, raw' ∙ raw)

        not_at : (p : ℕ) {q : ℕ} → is_taken (book_without s e).taken p ≡ true → is_taken (book_without s e).taken q ≡ false → p ≢ q
        not_at p taken free i = true≢false (sym taken ∙ ap (is_taken (book_without s e).taken) i ∙ free)

-- K2a, K2c. Of every quote that is not refused.
pub quote-entered : (s : Session) (e : QuoteEntry) → Sound s → (quoted s e).answer ≡ 0 → QuoteEntered s e
quote-entered s e sound done = let h = sym done ∙ quote-answer s e in entered-as-told s sound e (accepted-quote s e h) h
