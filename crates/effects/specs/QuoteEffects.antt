-- What a quote changes, from the parts of a session that decide it (02 K2).
use Rattle.std.specs.Prelude.{ℕ, ◌+◌, ◌≤◌, ◌<◌, Bool, true, false, not, cond, ◌≢◌, refl, List, ltb, Result, Ok, Err}
use Rattle.std.proofs.Math.Path.{◌≡◌}
use Rattle.std.proofs.Common.{sym, ap, subst, ◌∙◌, arith}
use borrow.Author.Tests.{ltb-true, ltb-false, not-false, le-ltb}
use Rattle.terms.specs.Bounds.{places, max_number}
use Rattle.terms.specs.Kinds.{is_place}
use Rattle.terms.specs.Orders.{resting_as}
use Rattle.terms.specs.Quotes.{is_quote, quote_from, quote_order}
use Rattle.terms.specs.declared.kinds.{Price.Price}
use Rattle.terms.specs.declared.orders.{Side.TheVariants.Buy, Side.TheVariants.Sell}
use Rattle.terms.specs.declared.parameters.{Parameters.Parameters}
use Rattle.terms.specs.declared.quote_terms.{QuoteEntry.QuoteEntry, Quote.Quote}
use Rattle.places.specs.Places.{lowest_free, count_taken, is_short, marked_at, unmarked_at}
use Rattle.places.specs.Words.{lowest-free-room}
use Rattle.places.specs.Counts.{no-second-free}
use Rattle.book.specs.declared.{Values.Values}
use Rattle.quotes.specs.declared.{Pair.Pair}
use Rattle.book.specs.Columns.{values_of}
use Rattle.controls.specs.declared.phases.{Phase.Phase}
use Rattle.refusals.specs.Checks.{Check, first_hit, answered, answered-refused, answered-done, answered-cases, hits, passes}
use Rattle.refusals.specs.Rows.{quote_rows, quote_later}
use Rattle.refusals.specs.Exactly.{clear}
use Rattle.effects.specs.declared.quoting.{QuoteChange.QuoteChange}

-- the words once the old sides are gone
abbrev pub freed_words : List ℕ → Pair → List ℕ
freed_words taken old = unmarked_at (unmarked_at taken old.bid) old.ask

-- the bid at the lowest free place then, and the ask at the next
unfoldable pub fresh_pair : List ℕ → Pair → Pair
fresh_pair taken old =
    let words = freed_words taken old in
    record { bid = lowest_free words; ask = lowest_free (marked_at words (lowest_free words)) }

-- .. step by step
pub fresh-made : (taken : List ℕ) (old : Pair) {one both then : List ℕ} {bid ask : ℕ} → one ≡ unmarked_at taken old.bid → both ≡ unmarked_at one old.ask
    → bid ≡ lowest_free both → then ≡ marked_at both bid → ask ≡ lowest_free then → record { bid = bid; ask = ask } ≡ fresh_pair taken old
unfolding fresh_pair
fresh-made taken old a b c d e = rw (e, d, c, b, a)

-- the two orders under the next two numbers
abbrev pub quote_change : ℕ → List ℕ → Pair → Quote → QuoteChange
quote_change given taken old q = record {
  given = given + 2;
  old = old;
  fresh = fresh_pair taken old;
  bid = values_of (resting_as (given + 1) true (quote_order q Buy));
  ask = values_of (resting_as (given + 2) true (quote_order q Sell));
}

-- beyond: an entry by a thirty-third member, where the square is kept; false in a plain session (02 K5)
unfoldable pub quote_effect : Phase → Parameters → Price → Bool → ℕ → List ℕ → Pair → QuoteEntry → Result QuoteChange ℕ
quote_effect phase p reference beyond given taken old e =
    answered (quote_rows phase p reference beyond given (is_short (freed_words taken old)) e) Err (Ok (quote_change given taken old (quote_from e)))

-- what every change of a quote has: both sides are marked as such and of one member, the bid is a buy and the ask a sell
pub record TwoSides (c : QuoteChange) : Type 0 where
  pub bid-marked : c.bid.quoted ≡ 1
  pub ask-marked : c.ask.quoted ≡ 1
  pub one-member : c.ask.member ≡ c.bid.member
  pub buys : c.bid.side ≡ 1
  pub sells : c.ask.side ≡ 2

pub two-sides : (phase : Phase) (p : Parameters) (reference : Price) (beyond : Bool) (given : ℕ) (taken : List ℕ) (old : Pair) (e : QuoteEntry) {c : QuoteChange}
    → quote_effect phase p reference beyond given taken old e ≡ Ok c → TwoSides c
unfolding quote_effect
two-sides phase p reference beyond given taken old e {c} =
    answered-cases (quote_rows phase p reference beyond given (is_short (freed_words taken old)) e) Err (Ok done) (λ (f : Result QuoteChange ℕ). f ≡ Ok c → TwoSides c)
    (λ n h i k. absurd cc)
    (λ i k. subst TwoSides (ap (change_or done) k) (record { bid-marked = refl; ask-marked = refl; one-member = refl; buys = refl; sells = refl }))
  where
    done : QuoteChange
    done = quote_change given taken old (quote_from e)

    change_or : QuoteChange → Result QuoteChange ℕ → QuoteChange
    change_or d (Err n) = d
    change_or d (Ok c) = c

-- ---- from what the code learns on the way
module _ (phase : Phase) (p : Parameters) (reference : Price) (beyond : Bool) (given : ℕ) (taken : List ℕ) (old : Pair) (e : QuoteEntry) where
  abbrev rows : List Check
  rows = quote_rows phase p reference beyond given (is_short (freed_words taken old)) e

  -- where two places are left, the bid and the ask are at places
  pub fresh-places : is_short (freed_words taken old) ≡ false → ((fresh_pair taken old).bid < places) × ((fresh_pair taken old).ask < places)
  unfolding fresh_pair
  fresh-places h =
      let second = ltb-true (lowest_free (marked_at (freed_words taken old) (lowest_free (freed_words taken old)))) places
      (not-false _ (no-second-free (freed_words taken old) ∙ h)) in
      (lowest-free-room (freed_words taken old) (λ i. omega (arith, ltb-false places (count_taken (freed_words taken old) + 2) h)), second)

  -- a quote that is done is not beyond
  pub quote-not-beyond : {c : QuoteChange} → quote_effect phase p reference beyond given taken old e ≡ Ok c → beyond ≡ false
  unfolding quote_effect
  quote-not-beyond {c} =
      answered-cases rows Err (Ok (quote_change given taken old (quote_from e))) (λ (f : Result QuoteChange ℕ). f ≡ Ok c → beyond ≡ false)
      (λ n h i k. absurd cc)
      (λ i k. clear rows tt i 16)

  pub quote-out-of-range : is_quote e ≡ false → Err 1 ≡ quote_effect phase p reference beyond given taken old e
  unfolding quote_effect
  quote-out-of-range h = answered-refused rows Err _ (hits 1 _ (rw h)) (λ z. omega arith)

  module _ {q : Quote} (good : (is_quote e ≡ true) × (q ≡ quote_from e)) {fresh : Pair} {n : ℕ} {left : Bool} (is-fresh : fresh ≡ fresh_pair taken old) (is-left : left ≡ is_place fresh.ask)
      (hit : n ≡ first_hit (quote_later phase p reference beyond given (not left) q)) where
    quote-short : not left ≡ is_short (freed_words taken old)
    unfolding fresh_pair
    quote-short = rw (is-left, is-fresh) (no-second-free (freed_words taken old))

    quote-hit : n ≡ first_hit rows
    quote-hit = passes 1 _ (rw good.0) (rw (good.1, quote-short) at hit)

    pub quote-turned-down : n ≢ 0 → Err n ≡ quote_effect phase p reference beyond given taken old e
    unfolding quote_effect
    quote-turned-down h = answered-refused rows Err _ quote-hit h

    module _ (z : n ≡ 0) where
      pub numbers-left : given + 2 ≤ max_number
      numbers-left = ltb-false max_number (given + 2) (clear rows tt (sym z ∙ quote-hit) 9)

      pub quote-done : {bid ask : Values} → bid ≡ values_of (resting_as (given + 1) true (quote_order q Buy)) → ask ≡ values_of (resting_as (given + 2) true (quote_order q Sell))
          → Ok (record { given = given + 2; old = old; fresh = fresh; bid = bid; ask = ask }) ≡ quote_effect phase p reference beyond given taken old e
      unfolding quote_effect
      quote-done b a = rw (b, a, is-fresh, good.1) (answered-done rows Err (Ok (quote_change given taken old (quote_from e))) (sym z ∙ quote-hit))
