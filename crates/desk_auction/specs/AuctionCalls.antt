-- The auction of a desk from what its code learns on the way: its trades, paired by places, are added to the cells of their members' rows.
use Rattle.std.specs.Prelude.{ℕ, ◌+◌, ◌*◌, ◌≤◌, ◌<◌, ◌^◌, true, false, ◌≡◌, refl, List, [], ◌∷◌, ◌++◌, map, eqb, length, get_or, take, drop}
use Rattle.std.proofs.Common.{true≢false, ⊎_elim, sym, ap, ◌∙◌, arith, eq-eqb, ne_eqb, length-append}
use mathlib.Core.List.Memᴰ
use Rattle.std.proofs.lemmas.List.{length-map}
use Rattle.lists.specs.Sums.{◌∈◌}
use Rattle.terms.specs.Bounds.{places}
use Rattle.terms.specs.Orders.{Resting, auction_from}
use Rattle.terms.specs.declared.orders.{Side.Side, Side.TheVariants.Buy, Side.TheVariants.Sell, Auction.Auction}
use Rattle.places.specs.Places.{is_taken}
use Rattle.book.specs.Columns.{order_at}
use Rattle.book.specs.Resting.{resting}
use Rattle.book.specs.ByPlace.{resting-intro}
use Rattle.queue.specs.Distinct.{Distinct}
use Rattle.queue.proofs.Reach.{resting-distinct}
use Rattle.queue.specs.RankNumbers.{place_of_rank, along}
use Rattle.queue.proofs.Queue.{ranks-known}
use Rattle.trades.specs.declared.{Trade.Trade}
use Rattle.trades.specs.Trades.{volume}
use Rattle.trades.specs.Written.{quadruples, trades_read}
use Rattle.trades.proofs.Written.{quadruples-length, trades-back}
use Rattle.auction.specs.declared.{Outcome.Outcome, Outcome.TheVariants.Traded, Outcome.TheVariants.NoTrade, Outcome.TheVariants.NonOpening, Outcome.TheVariants.Delayed}
use Rattle.auction.specs.Outcome.{price_answered, quantity_answered}
use Rattle.auction.specs.declared.trading.{Closed.Closed}
use Rattle.auction.specs.Trading.{ranks_on, trades_in, rests_in}
use Rattle.refusals.specs.Checks.{first_hit}
use Rattle.session.specs.declared.{Session.Session}
use Rattle.session.specs.Sound.{legal_price, number-room}
use Rattle.courses.specs.declared.{Course.Course, Course.TheVariants.Refused, Course.TheVariants.HeldBack, Course.TheVariants.TakesPlace}
use Rattle.courses.specs.Answer.{answer_with}
use Rattle.courses.specs.Course.{result_by, takes_place}
use Rattle.answers.specs.Auctions as plain
use Rattle.answers.specs.Auctions.{AuctionLeaves, auction_leaves}
use Rattle.answers.proofs.AuctionCalls.{IsCourseNow, taken_trades, taken-fits, taken-volume, taken-ranks, taken-count}
use Rattle.squares.specs.Square.{InBook, total, added_to}
use Rattle.squares.specs.Naming.{named, place_column, renamed, renamed-written}
use Rattle.squares.specs.Pairs.{pairs-named, pairs_of, along-named, at-a-rank, named-volume, added-named}
use Rattle.desk.specs.declared.{Desk.Desk}
use Rattle.desk.specs.Desk.{row_in, with_totals}
use Rattle.desk.specs.Sound.{SoundDesk, far-below}
use Rattle.desk_auction.specs.Auctions.{member_of, row_of_order, trades_listed, cleared_by, auctioned}

-- the member of a number is that of the order that has it
pub member_of_lem : (os : List Resting) → Distinct os → (o : Resting) → o ∈ os → member_of os o.number ≡ o.member
member_of_lem [] d o m = absurd (Memᴰ.not-nil m)
member_of_lem (x ∷ os) (others, d) o m =
    ⊎_elim (λ e. let same : eqb x.number o.number ≡ true = eq-eqb x.number o.number (ap (λ (y : Resting). y.number) (sym e)) in rw same (ap (λ (y : Resting). y.member) (sym e)))
    (λ h. let apart : eqb x.number o.number ≡ false = ne_eqb x.number o.number (λ i. others o h (sym i)) in rw apart (member_of_lem os d o h))
    (Memᴰ.cases_cons m)

-- an answer that counts no trades
pub none-counted : (course : Course) → takes_place course ≡ false → (result_by course 0).count ≡ 0
none-counted (Refused r) h = refl
none-counted (HeldBack o) h = nothing o
  where
    nothing : (o : Outcome) → (answer_with o 0).count ≡ 0
    nothing (Traded price quantity) = refl
    nothing NoTrade = refl
    nothing NonOpening = refl
    nothing (Delayed price quantity) = refl
none-counted (TakesPlace a o) h = absurd (true≢false h)

module _ (d : Desk) (sound : SoundDesk d) (which : ℕ) (list : List ℕ) where
  abbrev s : Session
  s = d.session

  -- the session's equation makes the desk's
  pub cleared-leaves : (l : AuctionLeaves Session) → l ≡ plain.auctioned s which list → (now : Desk) {after : Session} {totals : List ℕ} → now ≡ with_totals d after totals
      → totals ≡ added_to (row_of_order d) (trades_listed l) d.totals
      → auction_leaves (record { answer = l.returned.answer; result = l.returned.result; session = with_totals now l.returned.session now.totals }) l.list ≡ auctioned d which list
  unfolding auctioned
  cleared-leaves l e now n t = rw (n, t) (ap (cleared_by d) e)

  -- an auction that takes place
  module _ (course : Course) (is : IsCourseNow s sound.inner which list course) {b : Auction} {p : Outcome} (takes : course ≡ TakesPlace b p) (ranks : List ℕ) (bids asks : ℕ)
      (buys : first_hit (plain.auction_checks s which (length list)) ≡ 0 → take bids ranks ≡ ranks_on s.book (auction_from which) Buy)
      (sells : first_hit (plain.auction_checks s which (length list)) ≡ 0 → take asks (drop bids ranks) ≡ ranks_on s.book (auction_from which) Sell) where
    -- its trades by places, and under the orders' numbers
    abbrev by_places : List Trade
    by_places = trades_in (quantity_answered p) place_column s.book.left (take bids ranks) (take asks (drop bids ranks))

    abbrev number_at : ℕ → ℕ
    number_at place = get_or s.book.number place 0

    abbrev done : List Trade
    done = taken_trades s sound.inner which list course is takes ranks bids asks buys sells

    by-numbers : done ≡ map (named number_at) by_places
    unfolding trades_in
    by-numbers =
        rw (along-named s.book.number (take bids ranks), along-named s.book.number (take asks (drop bids ranks)))
        (pairs-named number_at _ (along place_column (take bids ranks)) _ (along place_column (take asks (drop bids ranks))) _)

    as_many : length by_places ≡ length done
    as_many = sym (ap length by-numbers ∙ length-map by_places (named number_at))

    fits : 4 * length by_places ≤ length list
    fits = rw as_many (taken-fits s sound.inner which list course is takes ranks bids asks buys sells)

    -- both sides of a trade stand at places of the book, under their members' rows
    at-rank : (on : Side) (place : ℕ) → (r : ℕ) × (r ∈ ranks_on s.book (auction_from which) on) × (place ≡ place_of_rank r)
        → (place < places) × (get_or d.rows place 0 ≡ row_of_order d (number_at place))
    at-rank on place (r, m, e) =
        let k = ranks-known (legal_price s) s.given s.book sound.inner.book-sound (number-room s sound.inner) on (auction_from which) r m in
        let here : place < places = rw e k.here in
        let taken : is_taken s.book.taken place ≡ true = rw e k.taken in
        let named = member_of_lem (resting s.book) (resting-distinct (legal_price s) s.given s.book sound.inner.book-sound) (order_at s.book place) (resting-intro s.book places place here taken) in
        (here, (sound.rows-known place here taken).0 ∙ ap (row_in d) (sym named))

    sides : (t : Trade) → t ∈ by_places → ((t.buy < places) × (get_or d.rows t.buy 0 ≡ row_of_order d (number_at t.buy))) × ((t.sell < places) × (get_or d.rows t.sell 0 ≡ row_of_order d (number_at t.sell)))
    unfolding trades_in
    sides t m =
        let (b, x) = pairs_of _ (along place_column (take bids ranks)) _ (along place_column (take asks (drop bids ranks))) _ t m in
        let (of-buys, of-sells) = taken-ranks s sound.inner which list course is takes ranks bids asks buys sells in
        (at-rank Buy t.buy (at-a-rank (ranks_on s.book (auction_from which) Buy) (rw of-buys at b)), at-rank Sell t.sell (at-a-rank (ranks_on s.book (auction_from which) Sell) (rw of-sells at x)))

    in-book : InBook by_places
    in-book t m = let (b, x) = sides t m in (b.0, x.0)

    totals-after : added_to (λ place. get_or d.rows place 0) by_places d.totals ≡ added_to (row_of_order d) done d.totals
    totals-after = rw by-numbers (added-named number_at (λ place. get_or d.rows place 0) (row_of_order d) by_places (λ t m. let (b, x) = sides t m in (b.1, x.1)) d.totals)

    -- no sum wraps
    no_wrap : total d.totals + volume by_places < 2 ^ 64
    no_wrap = omega (arith, sound.within, far-below s.phase, taken-volume s sound.inner which list course is takes ranks bids asks buys sells, ap volume by-numbers, named-volume number_at by_places)

    -- from what the trading by places leaves
    abbrev pub TradedBy : Closed → List ℕ → Type 0
    TradedBy closed left =
        (closed.count ≡ length by_places)
        × (closed.rests ≡ rests_in b (quantity_answered p) s.book.validity s.book.left (take bids ranks) (take asks (drop bids ranks)))
        × (4 * closed.count ≤ length list → left ≡ quadruples (price_answered p) by_places ++ drop (4 * closed.count) list)

    module _ (closed : Closed) (left : List ℕ) (traded : TradedBy closed left) where
      written : left ≡ quadruples (price_answered p) by_places ++ drop (4 * closed.count) list
      written = traded.2 (rw traded.0 fits)

      read_back : trades_read closed.count left ≡ by_places
      read_back = rw (traded.0, written) (trades-back (price_answered p) by_places _)

      -- what clearing the trades needs
      pub list-room : 4 * closed.count ≤ length left
      list-room = rw written (omega (arith, length-append (quadruples (price_answered p) by_places) (drop (4 * closed.count) list), quadruples-length (price_answered p) by_places, traded.0))

      pub placed : InBook (trades_read closed.count left)
      placed = rw read_back in-book

      pub below : total d.totals + volume (trades_read closed.count left) < 2 ^ 64
      below = rw read_back no_wrap

      -- .. and what it leaves
      module _ (after : List ℕ) (named-is : after ≡ renamed number_at closed.count left) where
        list-after : 4 * closed.count ≤ length list → after ≡ quadruples (price_answered p) done ++ drop (4 * closed.count) list
        list-after h = named-is ∙ rw (written, traded.0, by-numbers) (renamed-written number_at (price_answered p) by_places _)

        -- under the numbers it is what the session's auction leaves
        pub counted-by-numbers : (closed.count ≡ length done)
            × (closed.rests ≡ rests_in b (quantity_answered p) s.book.validity s.book.left (take bids ranks) (take asks (drop bids ranks)))
            × (4 * closed.count ≤ length list → after ≡ quadruples (price_answered p) done ++ drop (4 * closed.count) list)
        counted-by-numbers = (traded.0 ∙ as_many, traded.1, list-after)

        listed : trades_read closed.count after ≡ done
        listed = rw (list-after (rw traded.0 fits), traded.0, as_many) (trades-back (price_answered p) done _)

        pub cells-after : (totals : List ℕ) → totals ≡ added_to (λ place. get_or d.rows place 0) (trades_read closed.count left) d.totals
            → totals ≡ added_to (row_of_order d) (trades_read (result_by course closed.count).count after) d.totals
        cells-after totals t =
            let count : (result_by course closed.count).count ≡ closed.count = taken-count s sound.inner which list course is takes ranks bids asks buys sells closed.count (traded.0 ∙ as_many) in
            t ∙ rw (read_back, count, listed) totals-after
