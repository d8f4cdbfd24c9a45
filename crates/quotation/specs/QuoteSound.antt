-- Quote hands Sound on (A3): the member has one quote again (K2b).
use Rattle.std.specs.Prelude.{ℕ, ◌+◌, ◌≤◌, ◌<◌, true, false, ◌&&◌, ◌≡◌, refl, T}
use Rattle.std.proofs.Common.{⊎_elim, sym, ap, subst, ◌∙◌, arith, ltb-false, eq-eqb}
use Rattle.lists.specs.Tests.{test-holds, and_both, and_intro, neither}
use Rattle.terms.specs.Bounds.{places, max_number}
use Rattle.terms.specs.Kinds.{is_member, is_quantity}
use Rattle.terms.specs.Orders.{Resting, resting_as}
use Rattle.terms.specs.Quotes.{is_quote_side, is_quote, quote_from, quote_order}
use Rattle.terms.specs.declared.orders.{Side.Side, Side.TheVariants.Buy, Side.TheVariants.Sell}
use Rattle.terms.specs.declared.quote_terms.{QuoteEntry.QuoteEntry}
use Rattle.book.specs.declared.{Values.Values}
use Rattle.book.specs.Columns.{order_from, order_at}
use Rattle.book.specs.Writing.{stored-order, stored-elsewhere}
use Rattle.book.specs.Sound.{SoundOrder, SoundBook, SameQuote, NoQuoteAs, same_or_not, stored-sound}
use Rattle.quotes.specs.Without.{without-sound, none-quoted}
use Rattle.controls.specs.Phases.{has_started}
use Rattle.controls.specs.Controls.{off_step}
use Rattle.refusals.specs.Checks.{first_hit, answered-cases}
use Rattle.refusals.specs.Exactly.{clear}
use Rattle.session.specs.declared.{Session.Session}
use Rattle.session.specs.Sound.{legal_price, Sound, with-book-sound}
use Rattle.quotation.specs.declared.{Quoted.Quoted}
use Rattle.entries.specs.SoundAfter.{on-step-legal}
use Rattle.quotation.specs.Quote.{book_without, quote_checks, bid_entered, ask_entered, bid_place, book_with_bid, ask_place, book_with_quote, quote_refused, quote_done, quoted}
use Rattle.quotation.specs.QuoteCall.{bid-is-placed, ask-is-placed}

-- What an accepted quote is known to have.
pub record AcceptedQuote (s : Session) (e : QuoteEntry) : Type 0 where
  pub in-range : T (is_quote e)
  pub running : T (has_started s.phase)
  pub on_step : (side : Side) → off_step s.parameters.table (quote_order (quote_from e) side).limit ≡ false
  pub numbers-left : s.given + 2 ≤ max_number
  pub bid-room : bid_place s e < places
  pub ask-room : ask_place s e < places

pub accepted-quote : (s : Session) (e : QuoteEntry) → 0 ≡ first_hit (quote_checks s e) → AcceptedQuote s e
accepted-quote s e h =
    let rule = clear (quote_checks s e) tt h in
    record {
      in-range = test-holds (is_quote e) (rule 1);
      running = test-holds (has_started s.phase) (rule 2);
      on_step = each-side (neither _ _ (rule 5));
      numbers-left = ltb-false max_number (s.given + 2) (rule 9);
      bid-room = bid-is-placed s e (rule 10);
      ask-room = ask-is-placed s e (rule 10);
    }
  where
    each-side : (off_step s.parameters.table (quote_order (quote_from e) Buy).limit ≡ false) × (off_step s.parameters.table (quote_order (quote_from e) Sell).limit ≡ false)
        → (side : Side) → off_step s.parameters.table (quote_order (quote_from e) side).limit ≡ false
    each-side (b, a) Buy = b
    each-side (b, a) Sell = a

-- the fields of an entry, each in its range
pub record QuoteFields (e : QuoteEntry) : Type 0 where
  pub member : T (is_member e.member)
  pub bid : T (is_quote_side e.bid)
  pub ask : T (is_quote_side e.ask)

pub quote-fields : (e : QuoteEntry) → T (is_quote e) → QuoteFields e
quote-fields e h =
    let (mb, a) = and_both (is_member e.member && is_quote_side e.bid) _ h in
    let (m, b) = and_both (is_member e.member) _ mb in
    record { member = m; bid = b; ask = a }

module _ (s : Session) (sound : Sound s) (e : QuoteEntry) (ok : AcceptedQuote s e) where
  -- the order that a side is may rest under its number
  side-sound : (side : Side) (number : ℕ) → 0 < number → SoundOrder (legal_price s) number (resting_as number true (quote_order (quote_from e) side))
  side-sound side number above = go side (ok.on_step side)
    where
      fields : QuoteFields e
      fields = quote-fields e ok.in-range

      go : (side : Side) → off_step s.parameters.table (quote_order (quote_from e) side).limit ≡ false → SoundOrder (legal_price s) number (resting_as number true (quote_order (quote_from e) side))
      go Buy on =
          let (quantity, limit) = and_both (is_quantity e.bid.quantity) _ fields.bid in
          record { numbered = above; given-already = omega arith; of-member = fields.member; open-quantity = quantity; limit-in-range = limit; limit-legal = on-step-legal s (quote_order (quote_from e) Buy).limit limit (rw on tt) }
      go Sell on =
          let (quantity, limit) = and_both (is_quantity e.ask.quantity) _ fields.ask in
          record { numbered = above; given-already = omega arith; of-member = fields.member; open-quantity = quantity; limit-in-range = limit; limit-legal = on-step-legal s (quote_order (quote_from e) Sell).limit limit (rw on tt) }

  without : SoundBook (legal_price s) s.given (book_without s e)
  without = without-sound (legal_price s) s.given s.book sound.book-sound e.member

  -- no side of the member's quotes is left for the new ones to meet
  none_left : (o : Resting) → o.member ≡ e.member → NoQuoteAs (book_without s e) o
  none_left o of-member p h taken same =
      none-quoted (legal_price s) s.given s.book sound.book-sound e.member p h taken
      (and_intro (order_at (book_without s e) p).quoted _ (rw same.first tt) (rw (eq-eqb (order_at (book_without s e) p).member e.member (same.member ∙ of-member)) tt))

  pub with-bid : SoundBook (legal_price s) (s.given + 1) (book_with_bid s e)
  with-bid =
      stored-sound (legal_price s) s.given (book_without s e) without (bid_place s e) ok.bid-room (bid_entered s e) (omega arith)
      (side-sound Buy (s.given + 1) (omega arith)) (none_left (bid_entered s e) refl)

  pub bid-back : order_at (book_with_bid s e) (bid_place s e) ≡ bid_entered s e
  bid-back = stored-order (book_without s e) without.sized (bid_place s e) ok.bid-room (bid_entered s e) (side-sound Buy (s.given + 1) (omega arith)).limit-in-range

  -- the bid is a buy, the ask a sell
  ask-alone : NoQuoteAs (book_with_bid s e) (ask_entered s e)
  ask-alone p h taken same =
      ⊎_elim
      (λ i. let j : SameQuote (bid_entered s e) (ask_entered s e) = subst (λ (x : Resting). SameQuote x (ask_entered s e)) (ap (order_at (book_with_bid s e)) i ∙ bid-back) same in
      let z : ◌≡◌ {A = ℕ} 0 1 = apart j.side in omega arith)
      (λ n. let (t, raw) = stored-elsewhere (book_without s e) without.sized (bid_place s e) ok.bid-room (bid_entered s e) p n in
      none_left (ask_entered s e) refl p h (sym t ∙ taken) (subst (λ (r : Values). SameQuote (order_from r) (ask_entered s e)) raw same))
      (same_or_not p (bid_place s e))
    where
      apart : ◌≡◌ {A = Side} Buy Sell → ◌≡◌ {A = ℕ} 0 1
      apart i = cc

  pub with-quote : SoundBook (legal_price s) (s.given + 2) (book_with_quote s e)
  with-quote =
      stored-sound (legal_price s) (s.given + 1) (book_with_bid s e) with-bid (ask_place s e) ok.ask-room (ask_entered s e) (omega arith)
      (side-sound Sell (s.given + 2) (omega arith)) ask-alone

-- Quote hands it on.
pub quoted-sound : (s : Session) (e : QuoteEntry) → Sound s → Sound (quoted s e).session
unfolding quoted
quoted-sound s e sound = answered-cases (quote_checks s e) (quote_refused s) (quote_done s e) (λ (r : Quoted Session). Sound r.session) (λ n h i. sound) done
  where
    done : 0 ≡ first_hit (quote_checks s e) → Sound (quote_done s e).session
    done h =
        let ok = accepted-quote s e h in
        with-book-sound s sound ok.running (s.given + 2) _ ok.numbers-left (with-quote s sound e ok)
