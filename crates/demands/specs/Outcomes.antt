-- The outcome that an auction's call answers: what each number means and what it changes (B9).
use Rattle.std.specs.Prelude.{ℕ, zero, suc, ◌≤◌, Bool, not, ◌⊎◌, ◌↔◌, ◌≢◌, ◌≡◌, refl, List, T, leb, length}
use Rattle.std.proofs.Math.Option.{Option, none, some}
use Rattle.std.proofs.Common.{sym, ap, subst, ◌∙◌, arith, ltb-false}
use Rattle.lists.specs.Tests.{tests, and_both, test-holds}
use Rattle.terms.specs.Bounds.{trade_list_length}
use Rattle.terms.specs.Orders.{auction_number, is_auction, auction_from}
use Rattle.terms.specs.Parameters.{parameters_from}
use Rattle.terms.specs.declared.orders.{Auction.Auction, Auction.TheVariants.Opening, Auction.TheVariants.Closing, Entry.Entry}
use Rattle.terms.specs.declared.parameters.{Start.Start}
use Rattle.terms.specs.declared.quote_terms.{QuoteEntry.QuoteEntry}
use Rattle.price.specs.Interest.{executable}
use Rattle.price.specs.Chain.{auction_price}
use Rattle.auction.specs.declared.{Outcome.Outcome, Outcome.TheVariants.Traded, Outcome.TheVariants.NoTrade, Outcome.TheVariants.NonOpening, Outcome.TheVariants.Delayed}
use Rattle.auction.specs.Outcome.{prevented, delays, trades, price_answered}
use Rattle.trades.specs.Written.{trades_written}
use Rattle.controls.specs.declared.phases.{Phase.TheVariants.PreOpening}
use Rattle.session.specs.declared.{Session.Session}
use Rattle.courses.specs.declared.{AuctionAnswer.AuctionAnswer}
use Rattle.entries.specs.declared.{Started.Started, Entered.Entered, Deleted.Deleted}
use Rattle.quotation.specs.declared.{Quoted.Quoted}
use Rattle.session.specs.State.{delay_given}
use Rattle.controls.specs.Phases.{has_started, phase_after}
use Rattle.refusals.specs.Checks.{first_hit, answered-cases, answered-done}
use Rattle.refusals.specs.Exactly.{clear}
use Rattle.entries.specs.Entry.{start_checks, start_refused, start_done, started, order_checks, order_refused, order_done, entered, delete_checks, delete_refused, delete_done, deleted}
use Rattle.quotation.specs.Quote.{quote_checks, quote_refused, quote_done, quoted}
use Rattle.courses.specs.Answer.{answer_of}
use Rattle.answers.specs.Auctions.{AuctionLeaves, held_by, outcome_of, session_after, auction_leaves, auction_checks, auction_refused, auction_done, auctioned}
use Rattle.session.specs.State.{part}
use Rattle.demands.specs.Answers.{auction-answer}

-- an auction asked for by its number is that auction
pub auction-numbered : (a : Auction) → auction_from (auction_number a) ≡ a
auction-numbered Opening = refl
auction-numbered Closing = refl

-- every auction that is not refused is asked for by such a number
pub accepted-number : (s : Session) (which : ℕ) (list : List ℕ) → (auctioned s which list).returned.answer ≡ 0 → (a : Auction) × (which ≡ auction_number a)
accepted-number s which list accepted =
    named which (test-holds (is_auction which) (clear (auction_checks s which (length list)) tt (sym accepted ∙ auction-answer s which list) 1))
  where
    named : (x : ℕ) → T (is_auction x) → (a : Auction) × (x ≡ auction_number a)
    named zero h = absurd h
    named (suc zero) h = (Opening, refl)
    named (suc (suc zero)) h = (Closing, refl)
    named (suc (suc (suc n))) h = let k = (and_both (leb 1 (suc (suc (suc n)))) (leb (suc (suc (suc n))) 2) h).1 in absurd (omega tests)

-- An auction that is not refused is carried out, in a started session, on a list that is long enough.
pub record CarriedOut (s : Session) (a : Auction) (list : List ℕ) : Type 0 where
  pub leaves : auctioned s (auction_number a) list ≡ auction_done s a list
  pub running : T (has_started s.phase)
  pub room : trade_list_length ≤ length list

done-leaves : (s : Session) (a : Auction) (list : List ℕ) → 0 ≡ first_hit (auction_checks s (auction_number a) (length list)) → auction_done s a list ≡ auctioned s (auction_number a) list
unfolding auctioned
done-leaves s a list h =
    ap (λ (x : Auction). auction_done s x list) (sym (auction-numbered a))
    ∙ answered-done (auction_checks s (auction_number a) (length list)) (auction_refused s list) (auction_done s (auction_from (auction_number a)) list) h

pub carried-out : (s : Session) (a : Auction) (list : List ℕ) → (auctioned s (auction_number a) list).returned.answer ≡ 0 → CarriedOut s a list
carried-out s a list accepted =
    let checks = auction_checks s (auction_number a) (length list) in
    let h : 0 ≡ first_hit checks = sym accepted ∙ auction-answer s (auction_number a) list in
    record {
      leaves = sym (done-leaves s a list h);
      running = test-holds (has_started s.phase) (clear checks tt h 2);
      room = ltb-false (length list) trade_list_length (clear checks tt h 12);
    }

-- what decides the outcome: unlimited orders prevent it, the price, and whether that price delays it
abbrev pub is_prevented : Session → Auction → Bool
is_prevented s a = prevented (held_by s a) s.reference.0 (part s a)

abbrev pub price_of : Session → Auction → Option ℕ
price_of s a = auction_price s.reference.0 (part s a)

abbrev pub is_delayed : Session → Auction → ℕ → Bool
is_delayed s a price = delays (held_by s a) s.parameters.threshold.0 s.reference.0 price

-- B9, the order: Non Opening, Delayed Opening, then 1 with trades or 2 without; each number exactly when, and the price and quantity with it.
pub record OutcomesInOrder (s : Session) (a : Auction) (r : AuctionAnswer) : Type 0 where
  pub non-opening : (r.outcome ≡ 3) ↔ T (is_prevented s a)
  pub delayed : (r.outcome ≡ 4) ↔ (T (not (is_prevented s a)) × ((p : ℕ) × (price_of s a ≡ some p) × T (is_delayed s a p)))
  pub traded : (r.outcome ≡ 1) ↔ (T (not (is_prevented s a)) × ((p : ℕ) × (price_of s a ≡ some p) × T (not (is_delayed s a p))))
  pub no-trade : (r.outcome ≡ 2) ↔ (T (not (is_prevented s a)) × (price_of s a ≡ none))
  -- outcomes 1 and 4 give price and quantity, 2 and 3 zeros, and 2, 3 and 4 no trades
  pub priced : (r.outcome ≡ 1) ⊎ (r.outcome ≡ 4) → (price_of s a ≡ some r.price) × (r.quantity ≡ executable (part s a) r.price)
  pub zeros : (r.outcome ≡ 2) ⊎ (r.outcome ≡ 3) → (r.price ≡ 0) × (r.quantity ≡ 0)
  pub no-trades : r.outcome ≢ 1 → r.count ≡ 0

-- B9, the changes: the mark, the reference price and the phase change only as told, and the list is written with trades only.
pub record OutcomeChanges (s : Session) (a : Auction) (list : List ℕ) (l : AuctionLeaves Session) : Type 0 where
  -- the price becomes the reference price, and the phase goes on
  pub traded : l.returned.result.outcome ≡ 1 → (l.returned.session.reference.0 ≡ l.returned.result.price) × (l.returned.session.phase ≡ phase_after a)
  -- the phase goes on
  pub no-trade : l.returned.result.outcome ≡ 2 → (l.returned.session.reference ≡ s.reference) × (l.returned.session.phase ≡ phase_after a) × (l.list ≡ list)
  -- nothing changes
  pub non-opening : l.returned.result.outcome ≡ 3 → (l.returned.session ≡ s) × (l.list ≡ list)
  -- only the mark that the delay is spent
  pub delayed : l.returned.result.outcome ≡ 4 → (l.returned.session ≡ delay_given s) × (l.list ≡ list)
  pub mark-kept : l.returned.result.outcome ≢ 4 → l.returned.session.delayed ≡ s.delayed
  pub parameters-kept : l.returned.session.parameters ≡ s.parameters
  pub given-kept : l.returned.session.given ≡ s.given

changes : (s : Session) (a : Auction) (list : List ℕ) → OutcomeChanges s a list (auction_done s a list)
changes s a list = go (outcome_of s a)
  where
    go : (o : Outcome) → OutcomeChanges s a list (auction_leaves (record { answer = 0; result = answer_of o (part s a); session = session_after s a (part s a) o }) (trades_written (price_answered o) (trades o (part s a)) list))
    go (Traded price quantity) = record {
      traded = λ i. (refl, refl);
      no-trade = λ i. absurd (omega arith);
      non-opening = λ i. absurd (omega arith);
      delayed = λ i. absurd (omega arith);
      mark-kept = λ i. refl;
      parameters-kept = refl;
      given-kept = refl;
    }
    go NoTrade = record {
      traded = λ i. absurd (omega arith);
      no-trade = λ i. (refl, refl, refl);
      non-opening = λ i. absurd (omega arith);
      delayed = λ i. absurd (omega arith);
      mark-kept = λ i. refl;
      parameters-kept = refl;
      given-kept = refl;
    }
    go NonOpening = record {
      traded = λ i. absurd (omega arith);
      no-trade = λ i. absurd (omega arith);
      non-opening = λ i. (refl, refl);
      delayed = λ i. absurd (omega arith);
      mark-kept = λ i. refl;
      parameters-kept = refl;
      given-kept = refl;
    }
    go (Delayed price quantity) = record {
      traded = λ i. absurd (omega arith);
      no-trade = λ i. absurd (omega arith);
      non-opening = λ i. absurd (omega arith);
      delayed = λ i. (refl, refl);
      mark-kept = λ i. absurd (i refl);
      parameters-kept = refl;
      given-kept = refl;
    }

pub outcome-changes : (s : Session) (a : Auction) (list : List ℕ) → (auctioned s (auction_number a) list).returned.answer ≡ 0
    → OutcomeChanges s a list (auctioned s (auction_number a) list)
outcome-changes s a list accepted = subst (OutcomeChanges s a list) (sym (carried-out s a list accepted).leaves) (changes s a list)

-- B9, of the other calls: a start leads to pre-opening with its reference price in force; an order, a deletion and a quote keep phase,
-- mark, parameters and reference price. The rest return no session.
abbrev pub Standing : Session → Session → Type 0
Standing s t = (t.phase ≡ s.phase) × (t.delayed ≡ s.delayed) × (t.parameters ≡ s.parameters) × (t.reference ≡ s.reference)

pub record OthersKeep (s : Session) : Type 0 where
  pub start : (x : Start) → (started s x).answer ≡ 0
      → ((started s x).session.phase ≡ PreOpening) × ((started s x).session.delayed ≡ s.delayed) × ((started s x).session.parameters ≡ parameters_from x)
      × ((started s x).session.reference.0 ≡ x.reference)
  pub order : (e : Entry) → Standing s (entered s e).session
  pub delete : (number member : ℕ) → Standing s (deleted s number member).session
  pub quote : (e : QuoteEntry) → Standing s (quoted s e).session

pub others_keep : (s : Session) → OthersKeep s
unfolding started entered deleted quoted
others_keep s = record {
  start = λ x.
      answered-cases (start_checks s x) (start_refused s) (start_done s x)
      (λ (r : Started Session). r.answer ≡ 0 → (r.session.phase ≡ PreOpening) × (r.session.delayed ≡ s.delayed) × (r.session.parameters ≡ parameters_from x) × (r.session.reference.0 ≡ x.reference))
      (λ n h e z. absurd (h z)) (λ e z. (refl, refl, refl, refl));
  order = λ e.
      answered-cases (order_checks s e) (order_refused s) (order_done s e) (λ (r : Entered Session). Standing s r.session) (λ n h i. (refl, refl, refl, refl)) (λ i. (refl, refl, refl, refl));
  delete = λ number member.
      answered-cases (delete_checks s number member) (delete_refused s) (delete_done s number member) (λ (r : Deleted Session). Standing s r.session) (λ n h i. (refl, refl, refl, refl)) (λ i. (refl, refl, refl, refl));
  quote = λ e.
      answered-cases (quote_checks s e) (quote_refused s) (quote_done s e) (λ (r : Quoted Session). Standing s r.session) (λ n h i. (refl, refl, refl, refl)) (λ i. (refl, refl, refl, refl));
}
