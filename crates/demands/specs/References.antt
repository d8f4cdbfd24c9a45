-- Which reference price decides what (02 K4): the controls go by the start's over every sequence of calls (K4a), so that an order's answer does not
-- hang on the one in force (K4b); price, threshold and chain go by the one in force, and not by the start's.
use Rattle.std.specs.Prelude.{ℕ, zero, suc, Bool, true, ◌≢◌, ◌≡◌, refl, List, [], ◌∷◌, ◌++◌, length}
use Rattle.std.proofs.Common.{true≢false, sym, ap, subst, ◌∙◌}
use Rattle.terms.specs.Orders.{auction_from}
use Rattle.terms.specs.Parameters.{parameters_from}
use Rattle.terms.specs.declared.kinds.{Price.Price}
use Rattle.terms.specs.declared.orders.{Entry.Entry, Auction.Auction, Auction.TheVariants.Opening, Auction.TheVariants.Closing}
use Rattle.terms.specs.declared.parameters.{Start.Start, Parameters.Parameters}
use Rattle.terms.specs.declared.quote_terms.{QuoteEntry.QuoteEntry}
use Rattle.trades.specs.Written.{trades_written}
use Rattle.auction.specs.declared.{Outcome.Outcome, Outcome.TheVariants.Traded, Outcome.TheVariants.NoTrade, Outcome.TheVariants.NonOpening, Outcome.TheVariants.Delayed}
use Rattle.auction.specs.Outcome.{trades, price_answered}
use Rattle.controls.specs.Phases.{has_started}
use Rattle.refusals.specs.Checks.{first_hit, answered_by, answered-cases}
use Rattle.refusals.specs.Exactly.{clear}
use Rattle.session.specs.declared.{Session.Session}
use Rattle.session.specs.State.{fresh_session, part}
use Rattle.entries.specs.declared.{Started.Started, Entered.Entered}
use Rattle.quotation.specs.declared.{Quoted.Quoted}
use Rattle.entries.specs.Entry.{control_reference, start_checks, start_refused, start_done, started, order_checks, order_refused, order_done, entered}
use Rattle.quotation.specs.Quote.{quote_checks, quote_refused, quote_done, quoted}
use Rattle.courses.specs.Answer.{answer_of}
use Rattle.answers.specs.Auctions.{AuctionLeaves, outcome_of, session_after, auction_leaves, auction_checks, auction_refused, auction_done, auctioned}
use Rattle.foresight.specs.Theoretical.{theoretical}
use Rattle.demands.specs.Answers.{start-answer}
use Rattle.demands.specs.Sequences.{Act, Call, acted, run}
use Rattle.demands.specs.Outcomes.{others_keep}

-- a session that has started with these parameters
abbrev StartedWith : Parameters → Session → Type 0
StartedWith p s = (has_started s.phase ≡ true) × (s.parameters ≡ p)

no-second-start : (p : Parameters) (s : Session) → StartedWith p s → (y : Start) → 0 ≢ first_hit (start_checks s y)
no-second-start p s (running, e) y h = true≢false (sym running ∙ clear (start_checks s y) tt h 3)

-- no call changes them
module _ (p : Parameters) (s : Session) (with : StartedWith p s) where
  after-outcome : (a : Auction) (o : Outcome) → StartedWith p (session_after s a (part s a) o)
  after-outcome Opening (Traded price quantity) = (refl, with.1)
  after-outcome Closing (Traded price quantity) = (refl, with.1)
  after-outcome Opening NoTrade = (refl, with.1)
  after-outcome Closing NoTrade = (refl, with.1)
  after-outcome a NonOpening = with
  after-outcome a (Delayed price quantity) = with

  still-with : (c : Act) → StartedWith p (acted s c)
  unfolding started auctioned
  still-with (Act.start y) =
      answered-cases (start_checks s y) (start_refused s) (start_done s y) (λ (r : Started Session). StartedWith p r.session) (λ n h i. with) (λ i. absurd (no-second-start p s with y i))
  still-with (Act.order e) = let k = (others_keep s).order e in (ap has_started k.0 ∙ with.0, k.2 ∙ with.1)
  still-with (Act.delete number member) = let k = (others_keep s).delete number member in (ap has_started k.0 ∙ with.0, k.2 ∙ with.1)
  still-with (Act.quote q) = let k = (others_keep s).quote q in (ap has_started k.0 ∙ with.0, k.2 ∙ with.1)
  still-with (Act.auction which list) =
      answered-cases (auction_checks s which (length list)) (auction_refused s list) (auction_done s (auction_from which) list) (λ (l : AuctionLeaves Session). StartedWith p l.returned.session)
      (λ n h i. with) (λ i. after-outcome (auction_from which) (outcome_of s (auction_from which)))

run-with : (p : Parameters) (s : Session) (cs : List Call) → StartedWith p s → StartedWith p (run s cs)
run-with p s [] with = with
run-with p s (Call.act c ∷ cs) with = run-with p (acted s c) cs (still-with p s with c)
run-with p s (Call.look l ∷ cs) with = run-with p s cs with

run_on : (s : Session) (cs ds : List Call) → run s (cs ++ ds) ≡ run (run s cs) ds
run_on s [] ds = refl
run_on s (Call.act c ∷ cs) ds = run_on (acted s c) cs ds
run_on s (Call.look l ∷ cs) ds = run_on s cs ds

-- the controls are a start's: they use its reference price, and no other start is accepted
pub record ControlsOf (x : Start) (s : Session) : Type 0 where
  pub reference : (control_reference s).0 ≡ x.reference
  pub no_other : (y : Start) → (started s y).answer ≢ 0

-- K4a. Over every sequence of calls the reference price of the controls is that of the start that was accepted, from then on and whatever is
-- called.
pub controls-of-the-start : (cs ds : List Call) (x : Start) → (started (run fresh_session cs) x).answer ≡ 0
    → ControlsOf x (run fresh_session (cs ++ (Call.act (Act.start x) ∷ ds)))
controls-of-the-start cs ds x accepted =
    let s = run fresh_session cs in
    let k = (others_keep s).start x accepted in
    let t = run (started s x).session ds in
    let with = run-with (parameters_from x) (started s x).session ds (ap has_started k.0, k.2) in
    subst (ControlsOf x) (sym (run_on fresh_session cs (Call.act (Act.start x) ∷ ds))) (record {
      reference = ap (λ (p : Parameters). p.reference.0) with.1;
      no_other = λ y h. no-second-start (parameters_from x) t with y (sym h ∙ start-answer t y);
    })

-- a session with another reference price in force, and another mark of the delay
abbrev pub in_force : Session → Bool → Price → Session
in_force s delayed reference = record { phase = s.phase; delayed = delayed; parameters = s.parameters; reference = reference; given = s.given; book = s.book }

-- K4b. The answer to an order does not depend on the reference price in force: of two sessions that differ in it, and in the mark of the delay, and
-- have equal books, phases, parameters and numbers given, both answer and leave the same, but for that price and that mark.
pub order-by-the-start : (s : Session) (delayed : Bool) (reference : Price) (e : Entry)
    → entered (in_force s delayed reference) e
    ≡ record { answer = (entered s e).answer; number = (entered s e).number; session = in_force (entered s e).session delayed reference }
unfolding entered
order-by-the-start s delayed reference e = go (first_hit (order_checks s e))
  where
    other : Session
    other = in_force s delayed reference

    same : Entered Session → Entered Session
    same r = record { answer = r.answer; number = r.number; session = in_force r.session delayed reference }

    go : (n : ℕ) → answered_by n (order_refused other) (order_done other e) ≡ same (answered_by n (order_refused s) (order_done s e))
    go zero = refl
    go (suc n) = refl

-- .. nor does it for a quote
pub quote-by-the-start : (s : Session) (delayed : Bool) (reference : Price) (e : QuoteEntry)
    → quoted (in_force s delayed reference) e
    ≡ record { answer = (quoted s e).answer; bid = (quoted s e).bid; ask = (quoted s e).ask; session = in_force (quoted s e).session delayed reference }
unfolding quoted
quote-by-the-start s delayed reference e = go (first_hit (quote_checks s e))
  where
    other : Session
    other = in_force s delayed reference

    same : Quoted Session → Quoted Session
    same r = record { answer = r.answer; bid = r.bid; ask = r.ask; session = in_force r.session delayed reference }

    go : (n : ℕ) → answered_by n (quote_refused other) (quote_done other e) ≡ same (answered_by n (quote_refused s) (quote_done s e))
    go zero = refl
    go (suc n) = refl

-- a session with another reference price of the start
abbrev pub with_start : Session → Price → Session
with_start s reference = record {
  phase = s.phase;
  delayed = s.delayed;
  parameters = record { table = s.parameters.table; reference = reference; factor = s.parameters.factor; threshold = s.parameters.threshold; most = s.parameters.most };
  reference = s.reference;
  given = s.given;
  book = s.book;
}

-- K4, the rest: price, threshold and chain go on with the one in force, so that nothing that an auction answers, writes and leaves depends on the
-- start's reference price, but that price itself.
pub auction-in-force : (s : Session) (reference : Price) (which : ℕ) (list : List ℕ) → let l = auctioned s which list in
    auctioned (with_start s reference) which list
    ≡ auction_leaves (record { answer = l.returned.answer; result = l.returned.result; session = with_start l.returned.session reference }) l.list
unfolding auctioned outcome_of
auction-in-force s reference which list = go (first_hit (auction_checks s which (length list)))
  where
    other : Session
    other = with_start s reference

    a : Auction
    a = auction_from which

    same : AuctionLeaves Session → AuctionLeaves Session
    same l = auction_leaves (record { answer = l.returned.answer; result = l.returned.result; session = with_start l.returned.session reference }) l.list

    leaves : Session → Outcome → AuctionLeaves Session
    leaves t o = auction_leaves (record { answer = 0; result = answer_of o (part s a); session = session_after t a (part s a) o }) (trades_written (price_answered o) (trades o (part s a)) list)

    by-outcome : (o : Outcome) → leaves other o ≡ same (leaves s o)
    by-outcome (Traded price quantity) = refl
    by-outcome NoTrade = refl
    by-outcome NonOpening = refl
    by-outcome (Delayed price quantity) = refl

    go : (n : ℕ) → answered_by n (auction_refused other list) (auction_done other a list) ≡ same (answered_by n (auction_refused s list) (auction_done s a list))
    go zero = by-outcome (outcome_of s a)
    go (suc n) = refl

pub theoretical-in-force : (s : Session) (reference : Price) (which : ℕ) → theoretical (with_start s reference) which ≡ theoretical s which
unfolding theoretical outcome_of
theoretical-in-force s reference which = refl
