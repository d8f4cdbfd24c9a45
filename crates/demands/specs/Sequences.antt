-- Any sequence of calls: Sound is handed on (A3), so every session that can be reached has it (A6), no member has two quotes in it (K2b), and no
-- number is given twice (B12, K2d).
use Rattle.std.specs.Prelude.{ℕ, zero, suc, ◌+◌, ◌<◌, true, ◌≡◌, refl, List, [], ◌∷◌, ◌++◌, ltb, length}
use Rattle.std.proofs.Common.{⊎_elim, sym, ap, subst, ◌∙◌, arith}
use mathlib.Core.List.Memᴰ
use Rattle.lists.specs.Tests.{tests}
use Rattle.lists.specs.Sums.{◌∈◌}
use Rattle.lists.specs.Ranking.{Ranked}
use Rattle.terms.specs.Bounds.{places}
use Rattle.terms.specs.Orders.{Resting, auction_from}
use Rattle.terms.specs.declared.orders.{Auction.Auction, Entry.Entry}
use Rattle.terms.specs.declared.parameters.{Start.Start}
use Rattle.terms.specs.declared.quote_terms.{QuoteEntry.QuoteEntry}
use Rattle.places.specs.Places.{is_taken}
use Rattle.book.specs.declared.{Book.Book}
use Rattle.book.specs.Columns.{order_at}
use Rattle.book.specs.Resting.{resting}
use Rattle.book.specs.ByPlace.{resting-elim}
use Rattle.book.specs.Sound.{SameQuote}
use Rattle.auction.specs.declared.{Outcome.Outcome, Outcome.TheVariants.Traded, Outcome.TheVariants.NoTrade, Outcome.TheVariants.NonOpening, Outcome.TheVariants.Delayed}
use Rattle.refusals.specs.Checks.{first_hit, answered, answered_by, answered-cases, answered-done}
use Rattle.session.specs.declared.{Session.Session}
use Rattle.entries.specs.declared.{Started.Started, Deleted.Deleted}
use Rattle.session.specs.State.{fresh_session}
use Rattle.entries.specs.Entry.{start_checks, start_refused, start_done, started, order_checks, order_refused, order_done, entered, delete_checks, delete_refused, delete_done, deleted}
use Rattle.quotation.specs.Quote.{quote_checks, quote_refused, quote_done, quoted}
use Rattle.answers.specs.Auctions.{AuctionLeaves, outcome_of, session_after, auction_checks, auction_refused, auction_done, auctioned}
use Rattle.session.specs.State.{part}
use Rattle.answers.proofs.SoundAfter.{auctioned-sound}
use Rattle.session.specs.Sound.{Sound, fresh-sound}
use Rattle.entries.specs.SoundAfter.{started-sound, entered-sound, deleted-sound}
use Rattle.quotation.specs.QuoteSound.{quoted-sound}
use Rattle.demands.specs.Answers.{order-answer, quote-answer}

-- a call with all that it is given but the session: one that may change the session, or one that only looks at it
pub data Act : Type 0 where
  start : Start → Act
  order : Entry → Act
  delete : ℕ → ℕ → Act
  quote : QuoteEntry → Act
  auction : ℕ → List ℕ → Act

pub data Look : Type 0 where
  theoretical : ℕ → Look
  ranked : ℕ → ℕ → List ℕ → Look
  filled_front : List ℕ → List ℕ → ℕ → ℕ → Look

pub data Call : Type 0 where
  act : Act → Call
  look : Look → Call

abbrev pub acted : Session → Act → Session
acted s (start x) = (started s x).session
acted s (order e) = (entered s e).session
acted s (delete number member) = (deleted s number member).session
acted s (quote e) = (quoted s e).session
acted s (auction which list) = (auctioned s which list).returned.session

abbrev pub after : Session → Call → Session
after s (act c) = acted s c
after s (look l) = s

-- a list of calls, one after the other
abbrev pub run : Session → List Call → Session
run s [] = s
run s (c ∷ cs) = run (after s c) cs

-- A3. A fresh session is sound, and each call hands it on.
pub fresh-is-sound : Sound fresh_session
fresh-is-sound = fresh-sound

acted-sound : (s : Session) (c : Act) → Sound s → Sound (acted s c)
acted-sound s (start x) sound = started-sound s x sound
acted-sound s (order e) sound = entered-sound s e sound
acted-sound s (delete number member) sound = deleted-sound s number member sound
acted-sound s (quote e) sound = quoted-sound s e sound
acted-sound s (auction which list) sound = auctioned-sound s which list sound

pub handed-on : (s : Session) (c : Call) → Sound s → Sound (after s c)
handed-on s (act c) sound = acted-sound s c sound
handed-on s (look l) sound = sound

-- A6. Every session that can be reached is sound.
run_sound : (s : Session) (cs : List Call) → Sound s → Sound (run s cs)
run_sound s [] sound = sound
run_sound s (c ∷ cs) sound = run_sound (after s c) cs (handed-on s c sound)

pub reached-is-sound : (cs : List Call) → Sound (run fresh_session cs)
reached-is-sound cs = run_sound fresh_session cs fresh-sound

-- an order rests at a place of a book
abbrev pub RestsAt : Book → ℕ → Resting → Type 0
RestsAt b p o = (p < places) × (is_taken b.taken p ≡ true) × (o ≡ order_at b p)

-- K2b. In every session that can be reached, a member has at most one resting buy and one resting sell that are sides of a quote: two that are
-- on one side stand at one place,
pub one-quote-each : (cs : List Call) (p q : ℕ) (o x : Resting) → RestsAt (run fresh_session cs).book p o → RestsAt (run fresh_session cs).book q x
    → o.quoted ≡ true → x.quoted ≡ true → o.member ≡ x.member → o.side ≡ x.side → p ≡ q
one-quote-each cs p q o x (h, taken, is) (k, taken', is') first second member side =
    let b = (run fresh_session cs).book in
    let same : SameQuote o x = record { first = first; second = second; member = member; side = side } in
    (reached-is-sound cs).book-sound.one-quote p q h k taken taken' (subst (SameQuote (order_at b p)) is' (subst (λ (y : Resting). SameQuote y x) is same))

-- .. and are one order of the list of those that rest
pub one-quote-rests : (cs : List Call) (o x : Resting) → o ∈ resting (run fresh_session cs).book → x ∈ resting (run fresh_session cs).book
    → o.quoted ≡ true → x.quoted ≡ true → o.member ≡ x.member → o.side ≡ x.side → o ≡ x
one-quote-rests cs o x m n first second member side =
    let b = (run fresh_session cs).book in
    let at-o = resting-elim b places m in
    let at_x = resting-elim b places n in
    at-o.is
    ∙ ap (order_at b) (one-quote-each cs at-o.place at_x.place o x (at-o.below, at-o.taken, at-o.is) (at_x.below, at_x.taken, at_x.is) first second member side)
    ∙ sym at_x.is

-- the numbers that a call gives: an accepted order's, and both of an accepted quote
abbrev pub number_given : Session → Act → List ℕ
number_given s (start x) = []
number_given s (order e) = answered (order_checks s e) (λ n. []) ((s.given + 1) ∷ [])
number_given s (delete number member) = []
number_given s (quote e) = answered (quote_checks s e) (λ n. []) ((s.given + 1) ∷ (s.given + 2) ∷ [])
number_given s (auction which list) = []

abbrev pub gives : Session → Call → List ℕ
gives s (act c) = number_given s c
gives s (look l) = []

abbrev pub numbers_given : Session → List Call → List ℕ
numbers_given s [] = []
numbers_given s (c ∷ cs) = gives s c ++ numbers_given (after s c) cs

-- numbers that rise, all above a bound
abbrev rising : List ℕ → Type 0
rising ns = Ranked (λ a b. ltb a b) ns

abbrev Above : ℕ → List ℕ → Type 0
Above bound ns = ((n : ℕ) → n ∈ ns → bound < n) × rising ns

above_more : (bound next : ℕ) → bound < next → (ns : List ℕ) → Above next ns → Above bound (next ∷ ns)
above_more bound next h ns (above, r) = (
  (λ n m. ⊎_elim (λ i. omega arith) (λ k. omega (arith, above n k)) (Memᴰ.cases_cons m)),
  ((λ n m. omega (tests, above n m)), r),
)

given-started : (s : Session) (x : Start) → (started s x).session.given ≡ s.given
unfolding started
given-started s x = answered-cases (start_checks s x) (start_refused s) (start_done s x) (λ (r : Started Session). r.session.given ≡ s.given) (λ n h e. refl) (λ e. refl)

given-deleted : (s : Session) (number member : ℕ) → (deleted s number member).session.given ≡ s.given
unfolding deleted
given-deleted s number member =
    answered-cases (delete_checks s number member) (delete_refused s) (delete_done s number member) (λ (r : Deleted Session). r.session.given ≡ s.given) (λ n h e. refl) (λ e. refl)

given-after : (s : Session) (a : Auction) (book : List Resting) (o : Outcome) → (session_after s a book o).given ≡ s.given
given-after s a book (Traded price quantity) = refl
given-after s a book NoTrade = refl
given-after s a book NonOpening = refl
given-after s a book (Delayed price quantity) = refl

given-auctioned : (s : Session) (which : ℕ) (list : List ℕ) → (auctioned s which list).returned.session.given ≡ s.given
unfolding auctioned
given-auctioned s which list =
    let a = auction_from which in
    answered-cases (auction_checks s which (length list)) (auction_refused s list) (auction_done s a list) (λ (l : AuctionLeaves Session). l.returned.session.given ≡ s.given)
    (λ n h e. refl) (λ e. given-after s a (part s a) (outcome_of s a))

ordered-above : (s : Session) (e : Entry) (cs : List Call) → ((t : Session) → Above t.given (numbers_given t cs))
    → Above s.given (number_given s (order e) ++ numbers_given (entered s e).session cs)
unfolding entered
ordered-above s e cs later = go (first_hit (order_checks s e))
  where
    go : (n : ℕ) → Above s.given (answered_by n (λ m. []) ((s.given + 1) ∷ []) ++ numbers_given (answered_by n (order_refused s) (order_done s e)).session cs)
    go zero = above_more s.given (s.given + 1) (omega arith) (numbers_given (order_done s e).session cs) (later (order_done s e).session)
    go (suc n) = later s

quoted-above : (s : Session) (e : QuoteEntry) (cs : List Call) → ((t : Session) → Above t.given (numbers_given t cs))
    → Above s.given (number_given s (quote e) ++ numbers_given (quoted s e).session cs)
unfolding quoted
quoted-above s e cs later = go (first_hit (quote_checks s e))
  where
    go : (n : ℕ) → Above s.given (answered_by n (λ m. []) ((s.given + 1) ∷ (s.given + 2) ∷ []) ++ numbers_given (answered_by n (quote_refused s) (quote_done s e)).session cs)
    go zero =
        let ns = numbers_given (quote_done s e).session cs in
        above_more s.given (s.given + 1) (omega arith) ((s.given + 2) ∷ ns) (above_more (s.given + 1) (s.given + 2) (omega arith) ns (later (quote_done s e).session))
    go (suc n) = later s

numbers-above : (s : Session) (cs : List Call) → Above s.given (numbers_given s cs)
numbers-above s [] = ((λ n m. absurd (Memᴰ.not-nil m)), tt)
numbers-above s (act (start x) ∷ cs) = subst (λ (n : ℕ). Above n (numbers_given (started s x).session cs)) (given-started s x) (numbers-above (started s x).session cs)
numbers-above s (act (order e) ∷ cs) = ordered-above s e cs (λ t. numbers-above t cs)
numbers-above s (act (delete number member) ∷ cs) =
    subst (λ (n : ℕ). Above n (numbers_given (deleted s number member).session cs)) (given-deleted s number member) (numbers-above (deleted s number member).session cs)
numbers-above s (act (quote e) ∷ cs) = quoted-above s e cs (λ t. numbers-above t cs)
numbers-above s (act (auction which list) ∷ cs) =
    subst (λ (n : ℕ). Above n (numbers_given (auctioned s which list).returned.session cs)) (given-auctioned s which list) (numbers-above (auctioned s which list).returned.session cs)
numbers-above s (look l ∷ cs) = numbers-above s cs

-- B12, and K2d of the two numbers that a quote gives at once: the numbers that a sequence of calls gives rise, so that none is given twice.
pub numbers-rise : (cs : List Call) → Ranked (λ a b. ltb a b) (numbers_given fresh_session cs)
numbers-rise cs = (numbers-above fresh_session cs).1

-- .. and an accepted order's answer is the number given
pub number-answered : (s : Session) (e : Entry) → (entered s e).answer ≡ 0 → gives s (act (order e)) ≡ (entered s e).number ∷ []
unfolding entered
number-answered s e accepted =
    let h : 0 ≡ first_hit (order_checks s e) = sym accepted ∙ order-answer s e in
    rw (← answered-done (order_checks s e) (λ n. []) ((s.given + 1) ∷ []) h, ← answered-done (order_checks s e) (order_refused s) (order_done s e) h)

-- K2d. .. and an accepted quote's answer is the two numbers given, the bid's first
pub numbers-answered : (s : Session) (e : QuoteEntry) → (quoted s e).answer ≡ 0 → gives s (act (quote e)) ≡ (quoted s e).bid ∷ (quoted s e).ask ∷ []
unfolding quoted
numbers-answered s e accepted =
    let h : 0 ≡ first_hit (quote_checks s e) = sym accepted ∙ quote-answer s e in
    rw (← answered-done (quote_checks s e) (λ n. []) ((s.given + 1) ∷ (s.given + 2) ∷ []) h, ← answered-done (quote_checks s e) (quote_refused s) (quote_done s e) h)
