-- Every call: one answer (A2), refusals given exactly when (A4), and a refusal changes nothing (A5). The promises themselves (A1) stand
-- with the calls; each is an equation with the definition named here.
use Rattle.std.specs.Prelude.{ℕ, ◌+◌, ◌<◌, false, not, ◌&&◌, ◌||◌, ◌↔◌, ◌≢◌, ◌≡◌, List, [], T, leb, ltb, eqb, length}
use Rattle.std.proofs.Math.Path.{refl}
use Rattle.std.proofs.Common.{sym, ap, ◌∙◌, arith}
use Rattle.lists.specs.Choice.{any}
use Rattle.terms.specs.Bounds.{places, max_number, trade_list_length}
use Rattle.terms.specs.Kinds.{is_number, is_member}
use Rattle.terms.specs.Orders.{is_entry, order_from, is_side, is_auction, side_from, auction_from}
use Rattle.terms.specs.Parameters.{is_start}
use Rattle.terms.specs.Quotes.{is_quote, quote_from, quote_order, is_crossed}
use Rattle.terms.specs.declared.orders.{Entry.Entry, Validity.Validity, Side.TheVariants.Buy, Side.TheVariants.Sell}
use Rattle.terms.specs.declared.parameters.{Start.Start}
use Rattle.terms.specs.declared.quote_terms.{QuoteEntry.QuoteEntry}
use Rattle.places.specs.Places.{count_taken}
use Rattle.book.specs.Resting.{resting, is_of}
use Rattle.quotes.specs.Quotes.{without_quote}
use Rattle.controls.specs.Phases.{has_started, allows_order, allows_auction}
use Rattle.controls.specs.Controls.{off_step, reaches_collar, reaches_most, reaches_most_at_reference}
use Rattle.refusals.specs.Checks.{Check, first_hit, answered-number, answered-not-done}
use Rattle.refusals.specs.Exactly.{rule_of, earlier, NoneHit, well_numbered, none-hit, given-exactly-when}
use Rattle.session.specs.declared.{Session.Session}
use Rattle.entries.specs.declared.{Started.Started, Entered.Entered, Deleted.Deleted}
use Rattle.quotation.specs.declared.{Quoted.Quoted}
use Rattle.foresight.specs.declared.{Foreseen.Foreseen}
use Rattle.session.specs.State.{fresh_session}
use Rattle.entries.specs.Entry.{start_checks, start_refused, start_done, started, control_reference, order_checks, order_refused, order_done, entered, delete_checks, delete_refused, delete_done, deleted}
use Rattle.quotation.specs.Quote.{quote_checks, quote_refused, quote_done, quoted}
use Rattle.courses.specs.Answer.{no_answer}
use Rattle.answers.specs.Auctions.{AuctionLeaves, auction_checks, auction_refused, auction_done, auctioned}
use Rattle.foresight.specs.Theoretical.{theoretical_checks, theoretical_refused, theoretical_done, theoretical}
use Rattle.standings.specs.Queues.{QueueLeaves, ranked_checks, queue_refused, queue_done, ranked_numbers, queued, FrontAnswer, front_checks, front_refused, front_done, filled_front}

-- A2. Any two outcomes that a promise allows are equal.
pub record OneAnswer : Type 0 where
  pub of-fresh : (r q : Session) → r ≡ fresh_session → q ≡ fresh_session → r ≡ q
  pub of-start : (s : Session) (x : Start) (r q : Started Session) → r ≡ started s x → q ≡ started s x → r ≡ q
  pub of-order : (s : Session) (e : Entry) (r q : Entered Session) → r ≡ entered s e → q ≡ entered s e → r ≡ q
  pub of-delete : (s : Session) (number member : ℕ) (r q : Deleted Session) → r ≡ deleted s number member → q ≡ deleted s number member → r ≡ q
  pub of-quote : (s : Session) (e : QuoteEntry) (r q : Quoted Session) → r ≡ quoted s e → q ≡ quoted s e → r ≡ q
  pub of-auction : (s : Session) (which : ℕ) (list : List ℕ) (r q : AuctionLeaves Session) → r ≡ auctioned s which list → q ≡ auctioned s which list → r ≡ q
  pub of-theoretical : (s : Session) (which : ℕ) (r q : Foreseen) → r ≡ theoretical s which → q ≡ theoretical s which → r ≡ q
  pub of-ranked : (s : Session) (side which : ℕ) (list : List ℕ) (r q : QueueLeaves) → r ≡ queued s side which list → q ≡ queued s side which list → r ≡ q
  pub of-filled-front : (buys sells : List ℕ) (side total : ℕ) (r q : FrontAnswer) → r ≡ filled_front buys sells side total → q ≡ filled_front buys sells side total → r ≡ q

pub one_answer : OneAnswer
one_answer = record {
  of-fresh = λ r q h k. h ∙ sym k;
  of-start = λ s x r q h k. h ∙ sym k;
  of-order = λ s e r q h k. h ∙ sym k;
  of-delete = λ s number member r q h k. h ∙ sym k;
  of-quote = λ s e r q h k. h ∙ sym k;
  of-auction = λ s which list r q h k. h ∙ sym k;
  of-theoretical = λ s which r q h k. h ∙ sym k;
  of-ranked = λ s side which list r q h k. h ∙ sym k;
  of-filled-front = λ buys sells side total r q h k. h ∙ sym k;
}

-- A4. The answer is k if and only if k's rule holds and the rule of no earlier check does; 0 if and only if none holds.
pub record ExactlyWhen (answer : ℕ) (checks : List Check) : Type 0 where
  pub done : (answer ≡ 0) ↔ NoneHit checks
  pub refused : (k : ℕ) → 0 < k → (answer ≡ k) ↔ (T (rule_of k checks) × NoneHit (earlier k checks))

pub exactly : (checks : List Check) → T (well_numbered checks) → (answer : ℕ) → answer ≡ first_hit checks → ExactlyWhen answer checks
exactly checks w answer e = rw e (record { done = none-hit checks w; refused = given-exactly-when checks w })

-- each call's answer is the first hit of its checks
pub start-answer : (s : Session) (x : Start) → (started s x).answer ≡ first_hit (start_checks s x)
unfolding started
start-answer s x = answered-number (start_checks s x) (start_refused s) (start_done s x) (λ (r : Started Session). r.answer) (λ n. refl) refl

pub order-answer : (s : Session) (e : Entry) → (entered s e).answer ≡ first_hit (order_checks s e)
unfolding entered
order-answer s e = answered-number (order_checks s e) (order_refused s) (order_done s e) (λ (r : Entered Session). r.answer) (λ n. refl) refl

pub delete-answer : (s : Session) (number member : ℕ) → (deleted s number member).answer ≡ first_hit (delete_checks s number member)
unfolding deleted
delete-answer s number member = answered-number (delete_checks s number member) (delete_refused s) (delete_done s number member) (λ (r : Deleted Session). r.answer) (λ n. refl) refl

pub quote-answer : (s : Session) (e : QuoteEntry) → (quoted s e).answer ≡ first_hit (quote_checks s e)
unfolding quoted
quote-answer s e = answered-number (quote_checks s e) (quote_refused s) (quote_done s e) (λ (r : Quoted Session). r.answer) (λ n. refl) refl

pub auction-answer : (s : Session) (which : ℕ) (list : List ℕ) → (auctioned s which list).returned.answer ≡ first_hit (auction_checks s which (length list))
unfolding auctioned
auction-answer s which list = answered-number (auction_checks s which (length list)) (auction_refused s list) (auction_done s (auction_from which) list) (λ (l : AuctionLeaves Session). l.returned.answer) (λ n. refl) refl

pub theoretical-answer : (s : Session) (which : ℕ) → (theoretical s which).answer ≡ first_hit (theoretical_checks s which)
unfolding theoretical
theoretical-answer s which = answered-number (theoretical_checks s which) (theoretical_refused) (theoretical_done s (auction_from which)) (λ (r : Foreseen). r.answer) (λ n. refl) refl

pub ranked-answer : (s : Session) (side which : ℕ) (list : List ℕ) → (queued s side which list).returned.answer ≡ first_hit (ranked_checks s side which (length list))
unfolding queued
ranked-answer s side which list = answered-number (ranked_checks s side which (length list)) (queue_refused list) (queue_done list (ranked_numbers s (side_from side) (auction_from which))) (λ (l : QueueLeaves). l.returned.answer) (λ n. refl) refl

pub front-answer : (buys sells : List ℕ) (side total : ℕ) → (filled_front buys sells side total).answer ≡ first_hit (front_checks buys sells side)
unfolding filled_front
front-answer buys sells side total =
    answered-number (front_checks buys sells side) front_refused (front_done (side_from side) buys sells total) (λ (r : FrontAnswer). r.answer) (λ n. refl) refl

pub start-exactly : (s : Session) (x : Start) → ExactlyWhen (started s x).answer (start_checks s x)
start-exactly s x = exactly (start_checks s x) tt _ (start-answer s x)

pub order-exactly : (s : Session) (e : Entry) → ExactlyWhen (entered s e).answer (order_checks s e)
order-exactly s e = exactly (order_checks s e) tt _ (order-answer s e)

pub delete-exactly : (s : Session) (number member : ℕ) → ExactlyWhen (deleted s number member).answer (delete_checks s number member)
delete-exactly s number member = exactly (delete_checks s number member) tt _ (delete-answer s number member)

-- .. of a quote (02 K2): 1, 13, 2, 4, 5, 6, 7, 8, 9, 10; 16 has no case here (02 K5)
pub quote-exactly : (s : Session) (e : QuoteEntry) → ExactlyWhen (quoted s e).answer (quote_checks s e)
quote-exactly s e = exactly (quote_checks s e) tt _ (quote-answer s e)

pub auction-exactly : (s : Session) (which : ℕ) (list : List ℕ) → ExactlyWhen (auctioned s which list).returned.answer (auction_checks s which (length list))
auction-exactly s which list = exactly (auction_checks s which (length list)) tt _ (auction-answer s which list)

pub theoretical-exactly : (s : Session) (which : ℕ) → ExactlyWhen (theoretical s which).answer (theoretical_checks s which)
theoretical-exactly s which = exactly (theoretical_checks s which) tt _ (theoretical-answer s which)

pub ranked-exactly : (s : Session) (side which : ℕ) (list : List ℕ) → ExactlyWhen (queued s side which list).returned.answer (ranked_checks s side which (length list))
ranked-exactly s side which list = exactly (ranked_checks s side which (length list)) tt _ (ranked-answer s side which list)

pub front-exactly : (buys sells : List ℕ) (side total : ℕ) → ExactlyWhen (filled_front buys sells side total).answer (front_checks buys sells side)
front-exactly buys sells side total = exactly (front_checks buys sells side) tt _ (front-answer buys sells side total)

-- The rules one by one, as the table of 01 has them; those of a quote as 02 K2 has them: 5 to 8 where the bid hits or the ask does, 9 where fewer than
-- two numbers are left, and 10 where fewer than two places would be, the member's old quote gone. 16 has no case in a session without the square (02 K5).
pub record Rules (s : Session) : Type 0 where
  pub start-1 : (x : Start) → rule_of 1 (start_checks s x) ≡ not (is_start x)
  pub start-3 : (x : Start) → rule_of 3 (start_checks s x) ≡ has_started s.phase
  pub order-1 : (e : Entry) → rule_of 1 (order_checks s e) ≡ not (is_entry e)
  pub order-2 : (e : Entry) → rule_of 2 (order_checks s e) ≡ not (has_started s.phase)
  pub order-4 : (e : Entry) → rule_of 4 (order_checks s e) ≡ not (allows_order s.phase (order_from e).validity)
  pub order-5 : (e : Entry) → rule_of 5 (order_checks s e) ≡ off_step s.parameters.table (order_from e).limit
  pub order-6 : (e : Entry) → rule_of 6 (order_checks s e) ≡ reaches_collar (control_reference s) s.parameters.factor (order_from e).limit
  pub order-7 : (e : Entry) → rule_of 7 (order_checks s e) ≡ reaches_most s.parameters.most (order_from e).quantity (order_from e).limit
  pub order-8 : (e : Entry) → rule_of 8 (order_checks s e) ≡ reaches_most_at_reference s.parameters.most (order_from e).quantity (control_reference s)
  pub order-16 : (e : Entry) → rule_of 16 (order_checks s e) ≡ false
  pub order-9 : (e : Entry) → rule_of 9 (order_checks s e) ≡ leb max_number s.given
  pub order-10 : (e : Entry) → rule_of 10 (order_checks s e) ≡ eqb (count_taken s.book.taken) places
  pub delete-1 : (number member : ℕ) → rule_of 1 (delete_checks s number member) ≡ not (is_number number && is_member member)
  pub delete-2 : (number member : ℕ) → rule_of 2 (delete_checks s number member) ≡ not (has_started s.phase)
  pub delete-11 : (number member : ℕ) → rule_of 11 (delete_checks s number member) ≡ not (any (is_of number member) (resting s.book))
  pub quote-1 : (e : QuoteEntry) → rule_of 1 (quote_checks s e) ≡ not (is_quote e)
  pub quote-13 : (e : QuoteEntry) → rule_of 13 (quote_checks s e) ≡ is_crossed (quote_from e)
  pub quote-2 : (e : QuoteEntry) → rule_of 2 (quote_checks s e) ≡ not (has_started s.phase)
  pub quote-4 : (e : QuoteEntry) → rule_of 4 (quote_checks s e) ≡ not (allows_order s.phase Validity.Day)
  pub quote-5 : (e : QuoteEntry) → rule_of 5 (quote_checks s e)
      ≡ off_step s.parameters.table (quote_order (quote_from e) Buy).limit || off_step s.parameters.table (quote_order (quote_from e) Sell).limit
  pub quote-6 : (e : QuoteEntry) → rule_of 6 (quote_checks s e)
      ≡ reaches_collar (control_reference s) s.parameters.factor (quote_order (quote_from e) Buy).limit || reaches_collar (control_reference s) s.parameters.factor (quote_order (quote_from e) Sell).limit
  pub quote-7 : (e : QuoteEntry) → rule_of 7 (quote_checks s e)
      ≡ reaches_most s.parameters.most (quote_from e).bid.quantity (quote_order (quote_from e) Buy).limit || reaches_most s.parameters.most (quote_from e).ask.quantity (quote_order (quote_from e) Sell).limit
  pub quote-8 : (e : QuoteEntry) → rule_of 8 (quote_checks s e)
      ≡ reaches_most_at_reference s.parameters.most (quote_from e).bid.quantity (control_reference s) || reaches_most_at_reference s.parameters.most (quote_from e).ask.quantity (control_reference s)
  pub quote-16 : (e : QuoteEntry) → rule_of 16 (quote_checks s e) ≡ false
  pub quote-9 : (e : QuoteEntry) → rule_of 9 (quote_checks s e) ≡ ltb max_number (s.given + 2)
  pub quote-10 : (e : QuoteEntry) → rule_of 10 (quote_checks s e) ≡ ltb places (count_taken (without_quote e.member s.book).taken + 2)
  pub auction-1 : (which size : ℕ) → rule_of 1 (auction_checks s which size) ≡ not (is_auction which)
  pub auction-2 : (which size : ℕ) → rule_of 2 (auction_checks s which size) ≡ not (has_started s.phase)
  pub auction-4 : (which size : ℕ) → rule_of 4 (auction_checks s which size) ≡ not (allows_auction s.phase (auction_from which))
  pub auction-12 : (which size : ℕ) → rule_of 12 (auction_checks s which size) ≡ ltb size trade_list_length
  pub theoretical-1 : (which : ℕ) → rule_of 1 (theoretical_checks s which) ≡ not (is_auction which)
  pub theoretical-2 : (which : ℕ) → rule_of 2 (theoretical_checks s which) ≡ not (has_started s.phase)
  pub theoretical-4 : (which : ℕ) → rule_of 4 (theoretical_checks s which) ≡ not (allows_auction s.phase (auction_from which))
  pub ranked-1 : (side which size : ℕ) → rule_of 1 (ranked_checks s side which size) ≡ not (is_side side && is_auction which)
  pub ranked-2 : (side which size : ℕ) → rule_of 2 (ranked_checks s side which size) ≡ not (has_started s.phase)
  pub ranked-12 : (side which size : ℕ) → rule_of 12 (ranked_checks s side which size) ≡ ltb size places
  pub front-1 : (buys sells : List ℕ) (side : ℕ) → rule_of 1 (front_checks buys sells side) ≡ not (is_side side) || ltb places (length buys) || ltb places (length sells)

pub rules : (s : Session) → Rules s
rules s = record {
  start-1 = λ x. refl;
  start-3 = λ x. refl;
  order-1 = λ e. refl;
  order-2 = λ e. refl;
  order-4 = λ e. refl;
  order-5 = λ e. refl;
  order-6 = λ e. refl;
  order-7 = λ e. refl;
  order-8 = λ e. refl;
  order-16 = λ e. refl;
  order-9 = λ e. refl;
  order-10 = λ e. refl;
  delete-1 = λ number member. refl;
  delete-2 = λ number member. refl;
  delete-11 = λ number member. refl;
  quote-1 = λ e. refl;
  quote-13 = λ e. refl;
  quote-2 = λ e. refl;
  quote-4 = λ e. refl;
  quote-5 = λ e. refl;
  quote-6 = λ e. refl;
  quote-7 = λ e. refl;
  quote-8 = λ e. refl;
  quote-16 = λ e. refl;
  quote-9 = λ e. refl;
  quote-10 = λ e. refl;
  auction-1 = λ which size. refl;
  auction-2 = λ which size. refl;
  auction-4 = λ which size. refl;
  auction-12 = λ which size. refl;
  theoretical-1 = λ which. refl;
  theoretical-2 = λ which. refl;
  theoretical-4 = λ which. refl;
  ranked-1 = λ side which size. refl;
  ranked-2 = λ side which size. refl;
  ranked-12 = λ side which size. refl;
  front-1 = λ buys sells side. refl;
}

-- K5d. .. so that no order and no quote is answered 16 there
pub no-sixteen-for-order : (s : Session) (e : Entry) → (entered s e).answer ≢ 16
no-sixteen-for-order s e h = (((order-exactly s e).refused 16 (omega arith)).0 h).0

pub no-sixteen-for-quote : (s : Session) (e : QuoteEntry) → (quoted s e).answer ≢ 16
no-sixteen-for-quote s e h = (((quote-exactly s e).refused 16 (omega arith)).0 h).0

-- A5. A refusal changes nothing, every other number is 0, and every part is empty.
pub record ChangesNothing (s : Session) : Type 0 where
  pub start-refused : (x : Start) → (started s x).answer ≢ 0 → (started s x).session ≡ s
  pub order-refused : (e : Entry) → (entered s e).answer ≢ 0 → ((entered s e).session ≡ s) × ((entered s e).number ≡ 0)
  pub delete-refused : (number member : ℕ) → (deleted s number member).answer ≢ 0 → (deleted s number member).session ≡ s
  pub quote-refused : (e : QuoteEntry) → (quoted s e).answer ≢ 0 → ((quoted s e).session ≡ s) × ((quoted s e).bid ≡ 0) × ((quoted s e).ask ≡ 0)
  pub auction-refused : (which : ℕ) (list : List ℕ) → (auctioned s which list).returned.answer ≢ 0 → auctioned s which list ≡ auction_refused s list (auctioned s which list).returned.answer
  pub theoretical-refused : (which : ℕ) → (theoretical s which).answer ≢ 0 → (theoretical s which).result ≡ no_answer
  pub ranked-refused : (side which : ℕ) (list : List ℕ) → (queued s side which list).returned.answer ≢ 0 → ((queued s side which list).list ≡ list) × ((queued s side which list).returned.count ≡ 0)

-- what a refused call returns and leaves is its refusal
module _ (s : Session) where
  start_is : (x : Start) → (started s x).answer ≢ 0 → started s x ≡ start_refused s (started s x).answer
  unfolding started
  start_is x = answered-not-done (start_checks s x) (start_refused s) (start_done s x) (λ (r : Started Session). r.answer) (λ n. refl) refl

  order_is : (e : Entry) → (entered s e).answer ≢ 0 → entered s e ≡ order_refused s (entered s e).answer
  unfolding entered
  order_is e = answered-not-done (order_checks s e) (order_refused s) (order_done s e) (λ (r : Entered Session). r.answer) (λ n. refl) refl

  delete-is : (number member : ℕ) → (deleted s number member).answer ≢ 0 → deleted s number member ≡ delete_refused s (deleted s number member).answer
  unfolding deleted
  delete-is number member = answered-not-done (delete_checks s number member) (delete_refused s) (delete_done s number member) (λ (r : Deleted Session). r.answer) (λ n. refl) refl

  quote-is : (e : QuoteEntry) → (quoted s e).answer ≢ 0 → quoted s e ≡ quote_refused s (quoted s e).answer
  unfolding quoted
  quote-is e = answered-not-done (quote_checks s e) (quote_refused s) (quote_done s e) (λ (r : Quoted Session). r.answer) (λ n. refl) refl

  auction-is : (which : ℕ) (list : List ℕ) → (auctioned s which list).returned.answer ≢ 0 → auctioned s which list ≡ auction_refused s list (auctioned s which list).returned.answer
  unfolding auctioned
  auction-is which list = answered-not-done (auction_checks s which (length list)) (auction_refused s list) (auction_done s (auction_from which) list) (λ (l : AuctionLeaves Session). l.returned.answer) (λ n. refl) refl

  theoretical-is : (which : ℕ) → (theoretical s which).answer ≢ 0 → theoretical s which ≡ theoretical_refused (theoretical s which).answer
  unfolding theoretical
  theoretical-is which = answered-not-done (theoretical_checks s which) (theoretical_refused) (theoretical_done s (auction_from which)) (λ (r : Foreseen). r.answer) (λ n. refl) refl

  ranked-is : (side which : ℕ) (list : List ℕ) → (queued s side which list).returned.answer ≢ 0 → queued s side which list ≡ queue_refused list (queued s side which list).returned.answer
  unfolding queued
  ranked-is side which list = answered-not-done (ranked_checks s side which (length list)) (queue_refused list) (queue_done list (ranked_numbers s (side_from side) (auction_from which))) (λ (l : QueueLeaves). l.returned.answer) (λ n. refl) refl

pub changes-nothing : (s : Session) → ChangesNothing s
changes-nothing s = record {
  start-refused = λ x h. ap (λ (r : Started Session). r.session) (start_is s x h);
  order-refused = λ e h. let i = order_is s e h in (ap (λ (r : Entered Session). r.session) i, ap (λ (r : Entered Session). r.number) i);
  delete-refused = λ number member h. ap (λ (r : Deleted Session). r.session) (delete-is s number member h);
  quote-refused = λ e h. let i = quote-is s e h in (ap (λ (r : Quoted Session). r.session) i, ap (λ (r : Quoted Session). r.bid) i, ap (λ (r : Quoted Session). r.ask) i);
  auction-refused = auction-is s;
  theoretical-refused = λ which h. ap (λ (r : Foreseen). r.result) (theoretical-is s which h);
  ranked-refused = λ side which list h. let i = ranked-is s side which list h in (ap (λ (l : QueueLeaves). l.list) i, ap (λ (l : QueueLeaves). l.returned.count) i);
}

pub empty-part : (buys sells : List ℕ) (side total : ℕ) → (filled_front buys sells side total).answer ≢ 0 → (filled_front buys sells side total).part ≡ []
unfolding filled_front
empty-part buys sells side total h =
    ap (λ (r : FrontAnswer). r.part)
    (answered-not-done (front_checks buys sells side) front_refused (front_done (side_from side) buys sells total) (λ (r : FrontAnswer). r.answer) (λ n. refl) refl h)
