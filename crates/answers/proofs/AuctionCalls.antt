-- The auction from what its code learns on the way, for the promise of `auction`; the outcome and the trades counted also for the theoretical answer.
use Prim.Native.Nat.{ℕ, ◌*◌, ◌≤◌}
use Rattle.std.specs.Prelude.{Bool, true, ◌≡◌, List, [], ◌++◌, leb, length, take, drop}
use Rattle.std.proofs.Math.Bool.{false}
use Rattle.std.proofs.Common.{true≢false, sym, subst, ◌∙◌, arith, ltb-false}
use Rattle.std.proofs.Math.Path.{refl, ap}
use Rattle.lists.specs.Tests.{tests, and_both}
use Rattle.lists.specs.Sums.{◌∈◌, counted, counted-le, sum_bound}
use Rattle.terms.specs.Bounds.{places, trade_list_length, min_quantity, max_quantity}
use Rattle.terms.specs.Orders.{Resting, auction_from}
use Rattle.terms.specs.declared.orders.{Side.Side, Side.TheVariants.Buy, Side.TheVariants.Sell, Auction.Auction}
use Rattle.book.specs.declared.Book.{Book}
use Rattle.book.specs.Resting.{resting}
use Rattle.book.specs.ByPlace.{resting-length}
use Rattle.places.specs.Places.{behind_taken}
use Rattle.book.specs.Settling.{settled_to}
use Rattle.queue.proofs.Part.{taking_part-elim, taking_part-length, taking_part-distinct}
use Rattle.queue.proofs.Reach.{resting-sound, resting-distinct}
use Rattle.price.specs.Interest.{accepts, interest}
use Rattle.price.proofs.Interest.{executable-within}
use Rattle.trades.specs.declared.{Trade.Trade}
use Rattle.auction.specs.declared.{Outcome.Outcome, Outcome.TheVariants.Traded, Outcome.TheVariants.NoTrade, Outcome.TheVariants.NonOpening, Outcome.TheVariants.Delayed}
use Rattle.trades.specs.Trades.{volume}
use Rattle.trades.specs.TradesOf.{trades_of}
use Rattle.trades.proofs.TradesOf.{trades-none, trades-volume, trades-count}
use Rattle.auction.specs.declared.trading.{Closed.Closed}
use Rattle.auction.specs.Outcome.{trades, price_answered, quantity_answered}
use Rattle.auction.proofs.OutcomeLaws.{outcome-traded}
use Rattle.auction.specs.Trading.{ranks_on, outcome_in, trades_in, rests_in}
use Rattle.auction.proofs.TradingLaws.{ranks-few}
use Rattle.auction.proofs.OutcomeIn.{outcome-in}
use Rattle.auction.proofs.TradesIn.{trades-in, rests-in}
use Rattle.trades.specs.Written.{quadruples}
use Rattle.session.specs.declared.{Session.Session}
use Rattle.refusals.specs.Checks.{Check, first_hit, answered_by, answered-refused, answered-done}
use Rattle.refusals.specs.Numbers.{refusal-number-above}
use Rattle.refusals.specs.Exactly.{clear}
use Rattle.session.specs.Sound.{legal_price, legal-in-range, Sound, number-room}
use Rattle.session.specs.State.{with_book, delay_given, part}
use Rattle.courses.specs.declared.{AuctionAnswer.AuctionAnswer, Course.Course, Course.TheVariants.Refused, Course.TheVariants.HeldBack, Course.TheVariants.TakesPlace, Plan.Plan, Standing.Standing}
use Rattle.answers.proofs.SoundAfter.{traded-price}
use Rattle.courses.specs.Held.{preventable, delayable}
use Rattle.courses.specs.Answer.{answer_with, answer_of}
use Rattle.courses.specs.Course.{course_of, takes_place, answer_by, result_by, Priced, standing_by, Decided, takes-place, Planned}
use Rattle.answers.specs.Auctions.{held_by, outcome_of, auction_checks, auction_leaves, auction_refused, auction_done, auctioned}
use Rattle.answers.specs.AuctionCalls.{closed_by, standing_of, leaves_as, leaves_by, settled_by, trades_by}

module _ (s : Session) (sound : Sound s) (a : Auction) where
  by-ranks : (quantity : ℕ) → trades_by s a quantity ≡ trades_of quantity (part s a)
  by-ranks quantity = trades-in (legal_price s) s.given s.book sound.book-sound (number-room s sound) a quantity

  enough : (price quantity : ℕ) → outcome_of s a ≡ Traded price quantity → (on : Side) → quantity ≤ interest on price (part s a)
  unfolding outcome_of
  enough price quantity e on =
      let (found, i) = outcome-traded (held_by s a) s.parameters.threshold.0 s.reference.0 (part s a) price quantity e in
      omega (arith, executable-within on price (part s a))

  -- a book's orders have no more open than places times the largest quantity
  pub traded-within : (price quantity : ℕ) → outcome_of s a ≡ Traded price quantity → volume (trades_of quantity (part s a)) ≤ places * max_quantity
  unfolding interest
  traded-within price quantity e =
      rw (trades-volume price quantity (part s a) (taking_part-distinct a (resting s.book) (resting-distinct (legal_price s) s.given s.book sound.book-sound)) (enough price quantity e))
      (omega (arith, enough price quantity e Buy, sum_bound (λ o. counted (accepts Buy price o) o.left) max_quantity (part s a) each, taking_part-length a (resting s.book), resting-length s.book places))
    where
      each : (o : Resting) → o ∈ part s a → counted (accepts Buy price o) o.left ≤ max_quantity
      each o m =
          let within = (resting-sound (legal_price s) s.given s.book sound.book-sound o (taking_part-elim a (resting s.book) m).0).open-quantity in
          let most = (and_both (leb min_quantity o.left) (leb o.left max_quantity) within).1 in
          omega (tests, counted-le (accepts Buy price o) o.left)

  -- each outcome, as the code leaves it
  traded-leaves : (price quantity count : ℕ) → outcome_of s a ≡ Traded price quantity → count ≡ length (trades_by s a quantity) → (list left : List ℕ)
      → left ≡ quadruples price (trades_by s a quantity) ++ drop (4 * count) list
      → auction_leaves (record { answer = 0; result = record { outcome = 1; price = price; quantity = quantity; count = count }; session = closed_by s a quantity (record { 0 = price }) }) left ≡ auction_done s a list
  traded-leaves price quantity count e c list left l =
      rw (e, l, c, by-ranks quantity, rests-in (legal_price s) s.given s.book sound.book-sound (number-room s sound) a price quantity (enough price quantity e))

  no-trade-leaves : (price count : ℕ) → outcome_of s a ≡ NoTrade → count ≡ length (trades_by s a 0) → (list left : List ℕ)
      → left ≡ quadruples price (trades_by s a 0) ++ drop (4 * count) list
      → auction_leaves (record { answer = 0; result = record { outcome = 2; price = 0; quantity = 0; count = 0 }; session = closed_by s a 0 s.reference }) left ≡ auction_done s a list
  no-trade-leaves price count e c list left l =
      rw (e, l, c, by-ranks 0, rests-in (legal_price s) s.given s.book sound.book-sound (number-room s sound) a price 0 (λ on. omega arith), trades-none (part s a))

  non-opening-leaves : outcome_of s a ≡ NonOpening → (list : List ℕ)
      → auction_leaves (record { answer = 0; result = record { outcome = 3; price = 0; quantity = 0; count = 0 }; session = s }) list ≡ auction_done s a list
  non-opening-leaves e list = rw e

  delayed-leaves : (price quantity : ℕ) → outcome_of s a ≡ Delayed price quantity → (list : List ℕ)
      → auction_leaves (record {
        answer = 0;
        result = record { outcome = 4; price = price; quantity = quantity; count = 0 };
        session = delay_given s;
      }) list ≡ auction_done s a list
  delayed-leaves price quantity e list = rw e

  -- no more trades than the list has room for
  fits-list : (quantity count : ℕ) (list : List ℕ) → count ≡ length (trades_by s a quantity) → trade_list_length ≤ length list → 4 * count ≤ length list
  fits-list quantity count list c room = omega (
    arith,
    ap length (by-ranks quantity),
    trades-count quantity (part s a),
    taking_part-length a (resting s.book),
    resting-length s.book places,
  )

  -- the answer foretold: trades counted where it trades
  pub foretold : (o : Outcome) → o ≡ outcome_of s a → (result : AuctionAnswer) (count : ℕ) → count ≡ length (trades o (part s a)) → result ≡ answer_with o count → result ≡ answer_of (outcome_of s a) (part s a)
  foretold o now result count c r = r ∙ rw (← now, c) (same o)
    where
      same : (o : Outcome) → answer_with o (length (trades o (part s a))) ≡ answer_of o (part s a)
      same (Traded price quantity) = refl
      same NoTrade = refl
      same NonOpening = refl
      same (Delayed price quantity) = refl

  pub trades-counted : (buys sells : List ℕ) → buys ≡ ranks_on s.book a Buy → sells ≡ ranks_on s.book a Sell → (quantity count : ℕ)
      → count ≡ length (trades_in quantity s.book.number s.book.left buys sells) → count ≡ length (trades_of quantity (part s a))
  trades-counted buys sells e f quantity count c = c ∙ rw (e, f) (ap length (by-ranks quantity))

  -- the outcome at this moment
  pub outcome-by-ranks : (buys sells : List ℕ) → buys ≡ ranks_on s.book a Buy → sells ≡ ranks_on s.book a Sell
      → (prevents delays : Bool) → prevents ≡ preventable a → delays ≡ delayable a s.delayed → (o : Outcome)
      → o ≡ outcome_in (record { preventable = prevents; delayable = delays }) s.parameters.threshold.0 s.reference.0 s.book.limit s.book.left buys sells → o ≡ outcome_of s a
  unfolding outcome_of
  outcome-by-ranks buys sells e f prevents delays g h o i =
      i ∙ rw (e, f, g, h) (outcome-in (legal_price s) s.given s.book sound.book-sound (number-room s sound) a (held_by s a) s.parameters.threshold.0 s.reference.0 (legal-in-range s s.reference.0 sound.reference-holds))

module _ (s : Session) (sound : Sound s) (which : ℕ) (list : List ℕ) where
  abbrev checks : List Check
  checks = auction_checks s which (length list)

  -- what is decided now
  abbrev pub IsCourseNow : Course → Type 0
  IsCourseNow course = Decided (first_hit checks) (auction_from which) (outcome_of s (auction_from which)) course

  outcome-found : outcome_in (held_by s (auction_from which)) s.parameters.threshold.0 s.reference.0 s.book.limit s.book.left (ranks_on s.book (auction_from which) Buy) (ranks_on s.book (auction_from which) Sell)
      ≡ outcome_of s (auction_from which)
  outcome-found =
      outcome-by-ranks s sound (auction_from which) (ranks_on s.book (auction_from which) Buy) (ranks_on s.book (auction_from which) Sell) refl refl (preventable (auction_from which))
      (delayable (auction_from which) s.delayed) refl refl _ refl

  -- the course that is planned
  pub course-planned : {plan : Plan} {ranks : List ℕ}
      → Planned which s.phase (length list) s.delayed s.parameters.threshold.0 s.reference.0 s.book.side s.book.validity s.book.limit s.book.number s.book.left plan ranks
      → IsCourseNow plan.course
  course-planned planned = record { answer = planned.course.answer; goes = λ h. planned.course.goes h ∙ rw outcome-found }

  -- its price is one
  pub course-priced : (course : Course) → IsCourseNow course → Priced course
  course-priced (Refused r) is = tt
  course-priced (HeldBack o) is = tt
  course-priced (TakesPlace a o) is = subst Priced (sym (is.goes (sym is.answer))) (go (outcome_of s (auction_from which)) refl)
    where
      go : (o : Outcome) → outcome_of s (auction_from which) ≡ o → Priced (course_of (auction_from which) o)
      go (Traded price quantity) e = traded-price s sound (auction_from which) price quantity e
      go NoTrade e = tt
      go NonOpening e = tt
      go (Delayed price quantity) e = tt

  -- refused or held back: the book stays
  pub kept_leaves : (course : Course) → IsCourseNow course → takes_place course ≡ false → leaves_by s course 0 s.book list ≡ auctioned s which list
  unfolding auctioned
  kept_leaves (Refused r) is stays = answered-refused checks (auction_refused s list) (auction_done s (auction_from which) list) is.answer (refusal-number-above r)
  kept_leaves (HeldBack o) is stays =
      let at : HeldBack o ≡ course_of (auction_from which) (outcome_of s (auction_from which)) = is.goes (sym is.answer) in
      subst (λ (course : Course). leaves_by s course 0 s.book list ≡ auction_done s (auction_from which) list) (sym at) (go (outcome_of s (auction_from which)) refl (ap takes_place (sym at)))
      ∙ answered-done checks (auction_refused s list) (auction_done s (auction_from which) list) is.answer
    where
      go : (o : Outcome) → outcome_of s (auction_from which) ≡ o → takes_place (course_of (auction_from which) o) ≡ false
          → leaves_by s (course_of (auction_from which) o) 0 s.book list ≡ auction_done s (auction_from which) list
      go (Traded price quantity) e h = absurd (true≢false h)
      go NoTrade e h = absurd (true≢false h)
      go NonOpening e h = non-opening-leaves s sound (auction_from which) e list
      go (Delayed price quantity) e h = delayed-leaves s sound (auction_from which) price quantity e list
  kept_leaves (TakesPlace a o) is stays = absurd (true≢false stays)

  -- taking place: the trades of its quantity at its price, and the book after them
  module _ (course : Course) (is : IsCourseNow course) {b : Auction} {p : Outcome} (takes : course ≡ TakesPlace b p) (ranks : List ℕ) (bids asks : ℕ)
      (buys : first_hit checks ≡ 0 → take bids ranks ≡ ranks_on s.book (auction_from which) Buy)
      (sells : first_hit checks ≡ 0 → take asks (drop bids ranks) ≡ ranks_on s.book (auction_from which) Sell) where
    abbrev bid_ranks : List ℕ
    bid_ranks = take bids ranks

    abbrev ask_ranks : List ℕ
    ask_ranks = take asks (drop bids ranks)

    known : (first_hit checks ≡ 0) × (b ≡ auction_from which) × (p ≡ outcome_of s (auction_from which))
    known = takes-place course is takes

    pub taken-few : (length bid_ranks ≤ places) × (length ask_ranks ≤ places)
    taken-few =
        let b = s.book in (
          rw (buys known.0) (ranks-few (auction_from which) b.side b.validity b.limit b.number Buy),
          rw (sells known.0) (ranks-few (auction_from which) b.side b.validity b.limit b.number Sell),
        )

    room : trade_list_length ≤ length list
    room = ltb-false (length list) trade_list_length (clear checks tt (sym known.0) 12)

    -- the trades by their ranks are the auction's; they have room in the list, and move no more than the book holds
    abbrev pub taken_trades : List Trade
    taken_trades = trades_in (quantity_answered p) s.book.number s.book.left bid_ranks ask_ranks

    taken-by-ranks : taken_trades ≡ trades_by s (auction_from which) (quantity_answered p)
    taken-by-ranks = rw (buys known.0, sells known.0)

    pub taken-fits : 4 * length taken_trades ≤ length list
    taken-fits = fits-list s sound (auction_from which) (quantity_answered p) (length taken_trades) list (ap length taken-by-ranks) room

    pub taken-volume : volume taken_trades ≤ places * max_quantity
    taken-volume = rw (taken-by-ranks, by-ranks s sound (auction_from which) (quantity_answered p), known.2) (go (outcome_of s (auction_from which)) refl (ap takes_place (sym at ∙ takes)))
      where
        at : course ≡ course_of (auction_from which) (outcome_of s (auction_from which))
        at = is.goes known.0

        go : (o : Outcome) → outcome_of s (auction_from which) ≡ o → takes_place (course_of (auction_from which) o) ≡ true → volume (trades_of (quantity_answered o) (part s (auction_from which))) ≤ places * max_quantity
        go (Traded price quantity) e h = traded-within s sound (auction_from which) price quantity e
        go NoTrade e h = rw (trades-none (part s (auction_from which))) (omega arith)
        go NonOpening e h = absurd (true≢false (sym h))
        go (Delayed price quantity) e h = absurd (true≢false (sym h))

    pub taken-ranks : (bid_ranks ≡ ranks_on s.book (auction_from which) Buy) × (ask_ranks ≡ ranks_on s.book (auction_from which) Sell)
    taken-ranks = (buys known.0, sells known.0)

    -- as many are answered
    pub taken-count : (count : ℕ) → count ≡ length taken_trades → (result_by course count).count ≡ count
    taken-count count c = rw takes (go p refl)
      where
        placed : (o : Outcome) → p ≡ o → takes_place (course_of (auction_from which) o) ≡ true
        placed o e = let at : course ≡ course_of (auction_from which) o = is.goes known.0 ∙ rw (← known.2, e) in ap takes_place (sym at ∙ takes)

        none : p ≡ NoTrade → taken_trades ≡ []
        none e = taken-by-ranks ∙ rw e (by-ranks s sound (auction_from which) 0 ∙ trades-none (part s (auction_from which)))

        go : (o : Outcome) → p ≡ o → (answer_with o count).count ≡ count
        go (Traded price quantity) e = refl
        go NoTrade e = sym (c ∙ ap length (none e))
        go NonOpening e = absurd (true≢false (sym (placed NonOpening e)))
        go (Delayed price quantity) e = absurd (true≢false (sym (placed (Delayed price quantity) e)))

    -- by the outcome
    leaves_of_lem : (o : Outcome) → outcome_of s (auction_from which) ≡ o → takes_place (course_of (auction_from which) o) ≡ true → (count : ℕ) (left : List ℕ)
        → count ≡ length (trades_by s (auction_from which) (quantity_answered o))
        → (4 * count ≤ length list → left ≡ quadruples (price_answered o) (trades_by s (auction_from which) (quantity_answered o)) ++ drop (4 * count) list)
        → leaves_by s (course_of (auction_from which) o) count (settled_by s (auction_from which) (quantity_answered o)) left ≡ auction_done s (auction_from which) list
    leaves_of_lem (Traded price quantity) e h count left c l =
        traded-leaves s sound (auction_from which) price quantity count e c list left (l (fits-list s sound (auction_from which) quantity count list c room))
    leaves_of_lem NoTrade e h count left c l = no-trade-leaves s sound (auction_from which) 0 count e c list left (l (fits-list s sound (auction_from which) 0 count list c room))
    leaves_of_lem NonOpening e h count left c l = absurd (true≢false (sym h))
    leaves_of_lem (Delayed price quantity) e h count left c l = absurd (true≢false (sym h))

    pub taken-leaves : (count : ℕ) (book : Book) (left : List ℕ)
        → count ≡ length (trades_in (quantity_answered p) s.book.number s.book.left bid_ranks ask_ranks)
        → book ≡ settled_to (rests_in b (quantity_answered p) s.book.validity s.book.left bid_ranks ask_ranks) s.book (behind_taken s.book.taken)
        → (4 * count ≤ length list → left ≡ quadruples (price_answered p) (trades_in (quantity_answered p) s.book.number s.book.left bid_ranks ask_ranks) ++ drop (4 * count) list)
        → leaves_by s course count book left ≡ auctioned s which list
    unfolding auctioned
    taken-leaves count book left c k l = go known
      where
        go : (first_hit checks ≡ 0) × (b ≡ auction_from which) × (p ≡ outcome_of s (auction_from which)) → leaves_by s course count book left ≡ auctioned s which list
        go (z, i, o) =
            let at : course ≡ course_of (auction_from which) (outcome_of s (auction_from which)) = is.goes z in
            let settled : book ≡ settled_by s (auction_from which) (quantity_answered (outcome_of s (auction_from which))) = k ∙ rw (buys z, sells z, i, o) in
            rw (at, settled)
            (leaves_of_lem (outcome_of s (auction_from which)) refl (ap takes_place (sym at ∙ takes)) count left (rw (buys z, sells z, o) at c) (rw (buys z, sells z, o) at l)
            ∙ ap (λ (m : ℕ). answered_by m (auction_refused s list) (auction_done s (auction_from which) list)) (sym z))

module _ (s : Session) (sound : Sound s) (which : ℕ) (list : List ℕ) (course : Course) (is : IsCourseNow s sound which list course)
    (now : Session) (count : ℕ) (left : List ℕ) (answer : ℕ) (a : answer ≡ answer_by course) (result : AuctionAnswer) (r : result ≡ result_by course count)
    (standing : Standing) (t : standing ≡ standing_by course (standing_of s)) where
  -- refused or held back
  pub leaves_kept : takes_place course ≡ false → now ≡ s → count ≡ 0 → left ≡ list → leaves_as answer result standing now left ≡ auctioned s which list
  leaves_kept stays n c l = rw (a, r, t, n, c, l) (kept_leaves s sound which list course is stays)

  -- .. or taking place, with each column settled
  pub leaves-taken : {b : Auction} {p : Outcome} → course ≡ TakesPlace b p → (ranks : List ℕ) (bids asks : ℕ)
      → (first_hit (checks s sound which list) ≡ 0 → take bids ranks ≡ ranks_on s.book (auction_from which) Buy)
      → (first_hit (checks s sound which list) ≡ 0 → take asks (drop bids ranks) ≡ ranks_on s.book (auction_from which) Sell)
      → (book : Book) → now ≡ with_book s s.given book
      → (closed : Closed) → count ≡ closed.count
      → (closed.count ≡ length (trades_in (quantity_answered p) s.book.number s.book.left (take bids ranks) (take asks (drop bids ranks))))
      × (closed.rests ≡ rests_in b (quantity_answered p) s.book.validity s.book.left (take bids ranks) (take asks (drop bids ranks)))
      × (4 * closed.count ≤ length list → left ≡ quadruples (price_answered p) (trades_in (quantity_answered p) s.book.number s.book.left (take bids ranks) (take asks (drop bids ranks))) ++ drop (4 * closed.count) list)
      → (end : ℕ) → end ≡ behind_taken s.book.taken → book ≡ settled_to closed.rests s.book end
      → leaves_as answer result standing now left ≡ auctioned s which list
  leaves-taken takes ranks bids asks buys sells book n closed c (k, rests, l) end e settled =
      rw (a, r, t, n, c) (taken-leaves s sound which list course is takes ranks bids asks buys sells closed.count book left k (settled ∙ rw (e, rests)) l)
