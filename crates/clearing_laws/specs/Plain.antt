-- A desk and the session inside it (02 K5): its calls are the plain ones but for 16 (K5c), 16 is given exactly when, and a refusal changes nothing (K5d).
use Rattle.std.specs.Prelude.{ℕ, zero, suc, Bool, true, false, cond, ◌↔◌, ◌≢◌, ◌≡◌, refl, List, [], ◌∷◌, T, eqb}
use Rattle.std.proofs.Common.{ap, subst, ◌∙◌, arith, eqb-true}
use Rattle.terms.specs.declared.orders.{Entry.Entry}
use Rattle.terms.specs.declared.parameters.{Start.Start}
use Rattle.terms.specs.declared.quote_terms.{QuoteEntry.QuoteEntry}
use Rattle.squares.specs.Square.{added_to}
use Rattle.refusals.specs.Checks.{Check, check, first_hit, answered_by, answered-number, answered-not-done}
use Rattle.refusals.specs.Exactly.{earlier, NoneHit}
use Rattle.session.specs.declared.{Session.Session}
use Rattle.entries.specs.declared.{Entered.Entered}
use Rattle.quotation.specs.declared.{Quoted.Quoted}
use Rattle.entries.specs.Entry as plain
use Rattle.quotation.specs.Quote as quotation
use Rattle.answers.specs.Auctions as auctions
use Rattle.desk.specs.declared.{Desk.Desk}
use Rattle.desk.specs.Desk.{is_beyond, with_session}
use Rattle.desk.specs.Calls.{started, order_checks, order_refused, order_done, entered, quote_checks, quote_refused, quote_done, quoted, deleted}
use Rattle.desk_auction.specs.Auctions.{auctioned}
use Rattle.demands.specs.Sequences as sequences
use Rattle.demands.specs.Sequences.{Act, Call}
use Rattle.demands.specs.Answers.{ExactlyWhen, exactly, changes-nothing}
use Rattle.clearing_laws.specs.Runs.{acted, run}

-- ---- K5d: 16
order-answer : (d : Desk) (e : Entry) → (entered d e).answer ≡ first_hit (order_checks d e)
unfolding entered
order-answer d e = answered-number (order_checks d e) (order_refused d) (order_done d e) (λ (r : Entered Desk). r.answer) (λ n. refl) refl

quote-answer : (d : Desk) (e : QuoteEntry) → (quoted d e).answer ≡ first_hit (quote_checks d e)
unfolding quoted
quote-answer d e = answered-number (quote_checks d e) (quote_refused d) (quote_done d e) (λ (r : Quoted Desk). r.answer) (λ n. refl) refl

-- K5d. Each refusal is given exactly when its rule holds and none before it does; the rows are the session's with 16 after 8 and before 9,
pub order-exactly : (d : Desk) (e : Entry) → ExactlyWhen (entered d e).answer (order_checks d e)
order-exactly d e = exactly (order_checks d e) tt _ (order-answer d e)

pub quote-exactly : (d : Desk) (e : QuoteEntry) → ExactlyWhen (quoted d e).answer (quote_checks d e)
quote-exactly d e = exactly (quote_checks d e) tt _ (quote-answer d e)

-- .. so that 16 is the answer exactly for a thirty-third member to whom no earlier refusal is given.
pub sixteen-for-order : (d : Desk) (e : Entry) → ((entered d e).answer ≡ 16) ↔ (T (is_beyond d e.member) × NoneHit (earlier 16 (order_checks d e)))
sixteen-for-order d e = (order-exactly d e).refused 16 (omega arith)

pub sixteen-for-quote : (d : Desk) (e : QuoteEntry) → ((quoted d e).answer ≡ 16) ↔ (T (is_beyond d e.member) × NoneHit (earlier 16 (quote_checks d e)))
sixteen-for-quote d e = (quote-exactly d e).refused 16 (omega arith)

-- K5d. A refusal leaves the whole desk as it was, every other number is 0, and the lent list is as it was.
pub record ChangesNothing (d : Desk) : Type 0 where
  pub start-refused : (x : Start) → (started d x).answer ≢ 0 → (started d x).session ≡ d
  pub order-refused : (e : Entry) → (entered d e).answer ≢ 0 → ((entered d e).session ≡ d) × ((entered d e).number ≡ 0)
  pub delete-refused : (number member : ℕ) → (deleted d number member).answer ≢ 0 → (deleted d number member).session ≡ d
  pub quote-refused : (e : QuoteEntry) → (quoted d e).answer ≢ 0 → ((quoted d e).session ≡ d) × ((quoted d e).bid ≡ 0) × ((quoted d e).ask ≡ 0)
  pub auction-refused : (which : ℕ) (list : List ℕ) → (auctioned d which list).returned.answer ≢ 0
      → ((auctioned d which list).returned.session ≡ d) × ((auctioned d which list).list ≡ list)

order_is : (d : Desk) (e : Entry) → (entered d e).answer ≢ 0 → entered d e ≡ order_refused d (entered d e).answer
unfolding entered
order_is d e = answered-not-done (order_checks d e) (order_refused d) (order_done d e) (λ (r : Entered Desk). r.answer) (λ n. refl) refl

quote-is : (d : Desk) (e : QuoteEntry) → (quoted d e).answer ≢ 0 → quoted d e ≡ quote_refused d (quoted d e).answer
unfolding quoted
quote-is d e = answered-not-done (quote_checks d e) (quote_refused d) (quote_done d e) (λ (r : Quoted Desk). r.answer) (λ n. refl) refl

-- a refused auction lists no trade
auction-is : (d : Desk) (which : ℕ) (list : List ℕ) → (auctioned d which list).returned.answer ≢ 0
    → ((auctioned d which list).returned.session ≡ d) × ((auctioned d which list).list ≡ list)
unfolding auctioned added_to
auction-is d which list h = rw ((changes-nothing d.session).auction-refused which list h) (refl, refl)

pub desk-changes-nothing : (d : Desk) → ChangesNothing d
desk-changes-nothing d = record {
  start-refused = λ x h. ap (with_session d) ((changes-nothing d.session).start-refused x h);
  order-refused = λ e h. let i = order_is d e h in (ap (λ (r : Entered Desk). r.session) i, ap (λ (r : Entered Desk). r.number) i);
  delete-refused = λ number member h. ap (with_session d) ((changes-nothing d.session).delete-refused number member h);
  quote-refused = λ e h. let i = quote-is d e h in (ap (λ (r : Quoted Desk). r.session) i, ap (λ (r : Quoted Desk). r.bid) i, ap (λ (r : Quoted Desk). r.ask) i);
  auction-refused = auction-is d;
}

-- ---- K5c: the session inside
-- the checks of a session without the square: 16 has no case
abbrev without : List Check → List Check
without [] = []
without (c ∷ cs) = cond (eqb c.number 16) (check 16 false ∷ cs) (c ∷ without cs)

-- where 16 is not the first hit, the first hit is the same without it
first-without : (cs : List Check) → first_hit cs ≢ 16 → first_hit cs ≡ first_hit (without cs)
unfolding first_hit
first-without [] h = refl
first-without (c ∷ cs) h = go c.hit refl (eqb c.number 16) refl h (first-without cs)
  where
    go : (b : Bool) → c.hit ≡ b → (t : Bool) → eqb c.number 16 ≡ t → cond b c.number (first_hit cs) ≢ 16 → (first_hit cs ≢ 16 → first_hit cs ≡ first_hit (without cs))
        → cond b c.number (first_hit cs) ≡ first_hit (cond t (check 16 false ∷ cs) (c ∷ without cs))
    go true i true e h below = absurd (h (eqb-true c.number 16 e))
    go true i false e h below = rw i
    go false i true e h below = refl
    go false i false e h below = rw i (below h)

order-plain : (d : Desk) (e : Entry) → (entered d e).answer ≢ 16
    → ((entered d e).answer ≡ (plain.entered d.session e).answer) × ((entered d e).number ≡ (plain.entered d.session e).number) × ((entered d e).session.session ≡ (plain.entered d.session e).session)
unfolding entered plain.entered
order-plain d e h =
    subst (λ (n : ℕ). Same (answered_by (first_hit (order_checks d e)) (order_refused d) (order_done d e)) (answered_by n (plain.order_refused d.session) (plain.order_done d.session e)))
    (first-without (order_checks d e) (λ i. h (order-answer d e ∙ i))) (go (first_hit (order_checks d e)))
  where
    Same : Entered Desk → Entered Session → Type 0
    Same r q = (r.answer ≡ q.answer) × (r.number ≡ q.number) × (r.session.session ≡ q.session)

    go : (n : ℕ) → Same (answered_by n (order_refused d) (order_done d e)) (answered_by n (plain.order_refused d.session) (plain.order_done d.session e))
    go zero = (refl, refl, refl)
    go (suc n) = (refl, refl, refl)

quote-plain : (d : Desk) (e : QuoteEntry) → (quoted d e).answer ≢ 16
    → ((quoted d e).answer ≡ (quotation.quoted d.session e).answer) × ((quoted d e).bid ≡ (quotation.quoted d.session e).bid) × ((quoted d e).ask ≡ (quotation.quoted d.session e).ask)
    × ((quoted d e).session.session ≡ (quotation.quoted d.session e).session)
unfolding quoted quotation.quoted
quote-plain d e h =
    subst (λ (n : ℕ). Same (answered_by (first_hit (quote_checks d e)) (quote_refused d) (quote_done d e)) (answered_by n (quotation.quote_refused d.session) (quotation.quote_done d.session e)))
    (first-without (quote_checks d e) (λ i. h (quote-answer d e ∙ i))) (go (first_hit (quote_checks d e)))
  where
    Same : Quoted Desk → Quoted Session → Type 0
    Same r q = (r.answer ≡ q.answer) × (r.bid ≡ q.bid) × (r.ask ≡ q.ask) × (r.session.session ≡ q.session)

    go : (n : ℕ) → Same (answered_by n (quote_refused d) (quote_done d e)) (answered_by n (quotation.quote_refused d.session) (quotation.quote_done d.session e))
    go zero = (refl, refl, refl, refl)
    go (suc n) = (refl, refl, refl, refl)

-- K5c. Where the answer is not 16, a call answers, writes and leaves in the session inside what the plain session's call does; a start, a deletion and
-- an auction always.
pub record AsPlain (d : Desk) : Type 0 where
  pub start : (x : Start) → let r = plain.started d.session x in ((started d x).answer ≡ r.answer) × ((started d x).session.session ≡ r.session)
  pub order : (e : Entry) → (entered d e).answer ≢ 16 → let r = plain.entered d.session e in
      ((entered d e).answer ≡ r.answer) × ((entered d e).number ≡ r.number) × ((entered d e).session.session ≡ r.session)
  pub delete : (number member : ℕ) → let r = plain.deleted d.session number member in
      ((deleted d number member).answer ≡ r.answer) × ((deleted d number member).session.session ≡ r.session)
  pub quote : (e : QuoteEntry) → (quoted d e).answer ≢ 16 → let r = quotation.quoted d.session e in
      ((quoted d e).answer ≡ r.answer) × ((quoted d e).bid ≡ r.bid) × ((quoted d e).ask ≡ r.ask) × ((quoted d e).session.session ≡ r.session)
  pub auction : (which : ℕ) (list : List ℕ) → let l = auctioned d which list in let r = auctions.auctioned d.session which list in
      (l.returned.answer ≡ r.returned.answer) × (l.returned.result ≡ r.returned.result) × (l.returned.session.session ≡ r.returned.session) × (l.list ≡ r.list)

pub as_plain : (d : Desk) → AsPlain d
unfolding auctioned
as_plain d = record {
  start = λ x. (refl, refl);
  order = order-plain d;
  delete = λ number member. (refl, refl);
  quote = quote-plain d;
  auction = λ which list. (refl, refl, refl, refl);
}

-- no order and no quote of a run is answered 16
abbrev pub NotSixteen : Desk → Act → Type 0
NotSixteen d (Act.start x) = Unit {0}
NotSixteen d (Act.order e) = (entered d e).answer ≢ 16
NotSixteen d (Act.delete number member) = Unit {0}
NotSixteen d (Act.quote e) = (quoted d e).answer ≢ 16
NotSixteen d (Act.auction which list) = Unit {0}

abbrev pub NeverSixteen : Desk → List Call → Type 0
NeverSixteen d [] = Unit {0}
NeverSixteen d (Call.act c ∷ cs) = NotSixteen d c × NeverSixteen (acted d c) cs
NeverSixteen d (Call.look l ∷ cs) = NeverSixteen d cs

acted-plain : (d : Desk) (c : Act) → NotSixteen d c → (acted d c).session ≡ sequences.acted d.session c
acted-plain d (Act.start x) h = refl
acted-plain d (Act.order e) h = ((as_plain d).order e h).2
acted-plain d (Act.delete number member) h = refl
acted-plain d (Act.quote e) h = ((as_plain d).quote e h).3
acted-plain d (Act.auction which list) h = ((as_plain d).auction which list).2

-- K5c. .. so that over a run in which 16 is never answered the session inside is that of the plain run.
pub run-plain : (d : Desk) (cs : List Call) → NeverSixteen d cs → (run d cs).session ≡ sequences.run d.session cs
run-plain d [] h = refl
run-plain d (Call.act c ∷ cs) (here, later) = run-plain (acted d c) cs later ∙ ap (λ (s : Session). sequences.run s cs) (acted-plain d c here)
run-plain d (Call.look l ∷ cs) h = run-plain d cs h
