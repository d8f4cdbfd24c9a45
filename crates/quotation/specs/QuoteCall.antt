-- A quote as the code computes it: from where the old sides stand, the new ones put in their stead, column by column.
use Rattle.std.specs.Prelude.{ℕ, ◌+◌, ◌<◌, Bool, refl, Result, Ok, Err}
use Rattle.std.proofs.Math.Bool.{false}
use Rattle.std.proofs.Math.Path.{◌≡◌, subst}
use Rattle.std.proofs.Common.{sym, ap, ◌∙◌, arith, lt-ltb}
use mathlib.Core.List.{List}
use Rattle.terms.specs.Bounds.{places}
use Rattle.terms.specs.Orders.{side_number}
use Rattle.terms.specs.Quotes.{quote_from}
use Rattle.terms.specs.declared.orders.{Side.TheVariants.Buy, Side.TheVariants.Sell}
use Rattle.terms.specs.declared.quote_terms.{QuoteEntry.QuoteEntry}
use Rattle.places.specs.Places.{lowest_free, is_short, marked_at}
use Rattle.book.specs.declared.{Book.Book}
use Rattle.quotes.specs.declared.{Pair.Pair}
use Rattle.book.specs.Columns.{stored}
use Rattle.quotes.specs.Quotes.{quote_places, quote_place_in, requoted, requoted_words, requoted_book}
use Rattle.quotes.specs.Without.{quote-place-in, without-taken, requoted-stored}
use Rattle.refusals.specs.Checks.{Check, first_hit, answered, answered-refused, answered-done, answered-cases}
use Rattle.refusals.specs.Rows.{quote_rows}
use Rattle.refusals.specs.Exactly.{clear}
use Rattle.effects.specs.declared.quoting.{QuoteChange.QuoteChange}
use Rattle.effects.specs.QuoteEffects.{freed_words, fresh_pair, quote_change, quote_effect, fresh-places}
use Rattle.session.specs.declared.{Session.Session}
use Rattle.session.specs.State.{with_book}
use Rattle.session.specs.Sound.{legal_price, Sound}
use Rattle.quotation.specs.declared.{Quoted.Quoted}
use Rattle.entries.specs.Entry.{control_reference}
use Rattle.quotation.specs.Quote.{book_without, bid_entered, ask_entered, bid_place, ask_place, quote_refused, quote_done, quoted}

-- a session with a quote's change
abbrev pub requoted_in : Session → QuoteChange → Session
requoted_in s c = with_book s c.given (requoted_book s.book c.old c.fresh c.bid c.ask)

-- .. and a session whose columns are requoted one by one is this session
pub requoted-as : (s : Session) (c : QuoteChange) {taken number member side validity left limit quoted : List ℕ} → taken ≡ requoted_words s.book.taken c.old c.fresh
    → number ≡ requoted 0 s.book.number c.old c.fresh c.bid.number c.ask.number → member ≡ requoted 0 s.book.member c.old c.fresh c.bid.member c.ask.member
    → side ≡ requoted 0 s.book.side c.old c.fresh c.bid.side c.ask.side → validity ≡ requoted 0 s.book.validity c.old c.fresh c.bid.validity c.ask.validity
    → left ≡ requoted 0 s.book.left c.old c.fresh c.bid.left c.ask.left → limit ≡ requoted 0 s.book.limit c.old c.fresh c.bid.limit c.ask.limit
    → quoted ≡ requoted 0 s.book.quoted c.old c.fresh c.bid.quoted c.ask.quoted
    → with_book s c.given (record { taken = taken; number = number; member = member; side = side; validity = validity; left = left; limit = limit; quoted = quoted }) ≡ requoted_in s c
requoted-as s c a b d e f g h i = rw (a, b, d, e, f, g, h, i)

-- where the columns say that the sides of a member's quote stand
abbrev pub old_pair : List ℕ → List ℕ → List ℕ → ℕ → Pair
old_pair quoted members sides member =
    record { bid = quote_place_in quoted members sides member (side_number Buy) 0 places; ask = quote_place_in quoted members sides member (side_number Sell) 0 places }

abbrev pub old_in : Session → ℕ → Pair
old_in s member = old_pair s.book.quoted s.book.member s.book.side member

-- what a quote changes in a session
abbrev pub quote_in : Session → QuoteEntry → Result QuoteChange ℕ
quote_in s e = quote_effect s.phase s.parameters (control_reference s) false s.given s.book.taken (old_in s e.member) e

-- what the call returns, by the effect
abbrev pub quoted_with : Session → QuoteChange → Quoted Session
quoted_with s c = record { answer = 0; bid = c.bid.number; ask = c.ask.number; session = requoted_in s c }

abbrev pub quoted_by : Session → Result QuoteChange ℕ → Quoted Session
quoted_by s (Err n) = quote_refused s n
quoted_by s (Ok c) = quoted_with s c

-- the columns say where they stand
pub old-places : (s : Session) → Sound s → (member : ℕ) → old_in s member ≡ quote_places member s.book
old-places s sound member =
    let at = quote-place-in (legal_price s) s.given s.book sound.book-sound member in
    rw (at Buy, at Sell)

module _ (s : Session) (e : QuoteEntry) where
  abbrev old : Pair
  old = quote_places e.member s.book

  -- the words once the old sides are gone
  words : (book_without s e).taken ≡ freed_words s.book.taken old
  words = without-taken s.book old

  short : is_short (book_without s e).taken ≡ is_short (freed_words s.book.taken old)
  short = ap is_short words

  -- where two places are left, the new sides stand at them
  pub bid-is-placed : is_short (book_without s e).taken ≡ false → bid_place s e < places
  unfolding fresh_pair
  bid-is-placed h = rw words (fresh-places s.phase s.parameters (control_reference s) false s.given s.book.taken old e (sym short ∙ h)).0

  pub fresh-is : is_short (book_without s e).taken ≡ false → fresh_pair s.book.taken old ≡ record { bid = bid_place s e; ask = ask_place s e }
  unfolding fresh_pair stored
  fresh-is h =
      subst (λ (ws : List ℕ). ◌≡◌ {A = Pair} (record { bid = lowest_free ws; ask = lowest_free (marked_at ws (lowest_free ws)) }) (record { bid = bid_place s e; ask = ask_place s e })) words
      (rw (lt-ltb (bid_place s e) places (bid-is-placed h)))

  pub ask-is-placed : is_short (book_without s e).taken ≡ false → ask_place s e < places
  ask-is-placed h = rw (fresh-is h) at (fresh-places s.phase s.parameters (control_reference s) false s.given s.book.taken old e (sym short ∙ h)).1

  -- the columns then hold what the definition stores
  pub requoted-is : is_short (book_without s e).taken ≡ false → quoted_with s (quote_change s.given s.book.taken old (quote_from e)) ≡ quote_done s e
  requoted-is h =
      ap (λ (b : Book). record { answer = 0; bid = s.given + 1; ask = s.given + 2; session = with_book s (s.given + 2) b })
      (rw (fresh-is h) (requoted-stored s.book old (record { bid = bid_place s e; ask = ask_place s e }) (bid_entered s e) (ask_entered s e) (bid-is-placed h) (ask-is-placed h)))

  -- by where the old sides stand, whether a thirty-third member's or not: what is returned by the effect is what the checks answer
  module _ {A : Type 0} (beyond : Bool) (by : Result QuoteChange ℕ → A) (refused : ℕ → A) (done : A) (refuses : (n : ℕ) → by (Err n) ≡ refused n)
      (does : is_short (book_without s e).taken ≡ false → by (Ok (quote_change s.given s.book.taken old (quote_from e))) ≡ done) where
    abbrev checks : Bool → List Check
    checks few = quote_rows s.phase s.parameters (control_reference s) beyond s.given few e

    pub by-places : by (quote_effect s.phase s.parameters (control_reference s) beyond s.given s.book.taken old e) ≡ answered (checks (is_short (book_without s e).taken)) refused done
    unfolding quote_effect
    by-places =
        answered-cases (checks (is_short (freed_words s.book.taken old))) Err (Ok (quote_change s.given s.book.taken old (quote_from e)))
        (λ (f : Result QuoteChange ℕ). by f ≡ answered (checks (is_short (book_without s e).taken)) refused done)
        (λ n h i. refuses n ∙ answered-refused (checks (is_short (book_without s e).taken)) refused done (i ∙ same) h)
        (λ i. does (clear (checks (is_short (book_without s e).taken)) tt (i ∙ same) 10) ∙ answered-done (checks (is_short (book_without s e).taken)) refused done (i ∙ same))
      where
        same : first_hit (checks (is_short (freed_words s.book.taken old))) ≡ first_hit (checks (is_short (book_without s e).taken))
        same = rw short

-- what a quote does is what the call returns
pub quoted-by : (s : Session) (e : QuoteEntry) → Sound s → quoted_by s (quote_in s e) ≡ quoted s e
unfolding quoted
quoted-by s e sound = rw (old-places s sound e.member) (by-places s e false (quoted_by s) (quote_refused s) (quote_done s e) (λ n. refl) (requoted-is s e))

-- .. and it stands at places
abbrev fresh_of : Result QuoteChange ℕ → Pair
fresh_of (Err n) = record { bid = 0; ask = 0 }
fresh_of (Ok c) = c.fresh

pub placed : (s : Session) (e : QuoteEntry) (beyond : Bool) (before : Pair) {c : QuoteChange}
    → quote_effect s.phase s.parameters (control_reference s) beyond s.given s.book.taken before e ≡ Ok c → (c.fresh.bid < places) × (c.fresh.ask < places)
unfolding quote_effect
placed s e beyond before {c} =
    answered-cases checks Err (Ok (quote_change s.given s.book.taken before (quote_from e)))
    (λ (f : Result QuoteChange ℕ). f ≡ Ok c → (c.fresh.bid < places) × (c.fresh.ask < places))
    (λ n h i k. absurd (let z : ◌≡◌ {A = ℕ} 0 1 = cc in omega arith))
    (λ i k. let same : fresh_pair s.book.taken before ≡ c.fresh = ap fresh_of k in
    rw (← same) (fresh-places s.phase s.parameters (control_reference s) beyond s.given s.book.taken before e (clear checks tt i 10)))
  where
    checks : List Check
    checks = quote_rows s.phase s.parameters (control_reference s) beyond s.given (is_short (freed_words s.book.taken before)) e

pub quote-placed : (s : Session) (e : QuoteEntry) {c : QuoteChange} → quote_in s e ≡ Ok c → (c.fresh.bid < places) × (c.fresh.ask < places)
quote-placed s e = placed s e false (old_in s e.member)
