-- "Could more have traded?" (C1 to C4, C6) and the book after (B8), over what an auction's call returns and writes: for every sound session, at
-- the opening and at the closing, where it is neither refused nor held back.
use Prim.Native.Nat.{ℕ, zero, suc, ◌*◌, ◌-◌, ◌≤◌, ◌<◌}
use Rattle.std.specs.Prelude.{Bool, not, ◌⊎◌, ◌≡◌, List, [], ◌∷◌, ◌++◌, map, eqb, leb}
use Rattle.std.proofs.Math.Bool.{true, false, cond}
use Rattle.std.proofs.Math.Option.{none, some, none-ne-some, some-injective}
use Rattle.std.proofs.Common.{⊎_elim, ap, subst, ◌∙◌, arith, ne_eqb, T_not, eqb→eq, length-drop}
use Rattle.std.proofs.Math.Path.{refl, sym}
use mathlib.Core.List.Memᴰ
use Rattle.std.proofs.Math.Dec.{T}
use Rattle.std.proofs.Math.ListN.{length, drop, length-append}
use Rattle.std.proofs.Math.Seq.{drop_at}
use Rattle.lists.specs.Tests.{tests, decided}
use Rattle.lists.specs.Sums.{◌∈◌, counted, sum, sum-none, sum-map, le-sum}
use Rattle.terms.specs.Orders.{Resting, auction_number}
use Rattle.terms.specs.Bounds.{places, max_trades, numbers_per_trade, trade_list_length}
use Rattle.terms.specs.declared.orders.{Side.Side, Side.TheVariants.Buy, Side.TheVariants.Sell, Auction.Auction, Auction.TheVariants.Opening, Auction.TheVariants.Closing, Validity.Validity, Validity.TheVariants.AtOpening, Validity.TheVariants.AtClose, Validity.TheVariants.Day, Validity.TheVariants.LaterDay}
use Rattle.book.specs.declared.Book.{Book}
use Rattle.places.specs.Places.{is_taken}
use Rattle.book.specs.Columns.{order_at}
use Rattle.book.specs.Resting.{resting, changed}
use Rattle.book.specs.ByPlace.{resting-intro}
use Rattle.book.specs.Sound.{SoundBook}
use Rattle.book.specs.Changed.{AfterAt, changed-at, changed-resting}
use Rattle.queue.specs.Part.{takes_part, taking_part}
use Rattle.queue.proofs.Part.{taking_part-elim, taking_part-intro}
use Rattle.queue.specs.Distinct.{Distinct}
use Rattle.queue.proofs.Distinct.{distinct-one}
use Rattle.queue.specs.Rank.{ahead, on_side}
use Rattle.price.specs.Interest.{accepts, interest, executable}
use Rattle.trades.specs.declared.{Trade.Trade}
use Rattle.auction.specs.declared.{Outcome.Outcome, Outcome.TheVariants.Traded, Outcome.TheVariants.NoTrade, Outcome.TheVariants.NonOpening, Outcome.TheVariants.Delayed}
use Rattle.trades.specs.Trades.{party, traded, volume, TradeList}
use Rattle.trades.specs.Pairing.{amount, paired}
use Rattle.trades.specs.TradesOf.{fills, trades_of}
use Rattle.trades.proofs.TradesOf.{trades-none}
use Rattle.auction.specs.Outcome.{trades, outcome_number, price_answered, quantity_answered, takes_place}
use Rattle.auction.specs.After.{remaining, ends, leaves, rest_of}
use Rattle.auction.proofs.AfterLaws.{rest-keeps}
use Rattle.trades.specs.Written.{quadruples, trades_read}
use Rattle.trades.proofs.Written.{quadruples-length, trades-back}
use Rattle.session.specs.declared.{Session.Session}
use Rattle.session.specs.Sound.{legal_price, Sound}
use Rattle.answers.specs.Auctions.{AuctionLeaves, held_by, outcome_of, trades_now, session_after, auction_done, auctioned}
use Rattle.session.specs.State.{part}
use Rattle.demands.specs.Traded.{Ranged, sound-ranged, no-list-moves-more, bought-is-sold, nobody-passed-over, nothing-left-could-trade, list-of-trades}
use Rattle.demands.specs.Outcomes.{CarriedOut, carried-out}

-- the prices beside the first k trades of a lent list, read back (`trades_read` has the trades)
abbrev pub prices_read : ℕ → List ℕ → List ℕ
prices_read zero list = []
prices_read (suc k) [] = []
prices_read (suc k) (b ∷ []) = []
prices_read (suc k) (b ∷ s ∷ []) = []
prices_read (suc k) (b ∷ s ∷ q ∷ []) = []
prices_read (suc k) (b ∷ s ∷ q ∷ p ∷ list) = p ∷ prices_read k list

prices-back : (price : ℕ) (ts : List Trade) (list : List ℕ)
    → (length (prices_read (length ts) (quadruples price ts ++ list)) ≡ length ts) × ((p : ℕ) → p ∈ prices_read (length ts) (quadruples price ts ++ list) → p ≡ price)
prices-back price [] list = (refl, λ p m. absurd (Memᴰ.not-nil m))
prices-back price (t ∷ ts) list =
    let (as_many, each) = prices-back price ts list in
    (ap suc as_many, λ p m. ⊎_elim (λ i. i) (each p) (Memᴰ.cases_cons m))

-- the trades that a call leaves in the list
abbrev pub listed : AuctionLeaves Session → List Trade
listed l = trades_read l.returned.result.count l.list

-- neither refused nor held back: answer 0, and outcome 1 or 2
abbrev pub TookPlace : AuctionLeaves Session → Type 0
TookPlace l = (l.returned.answer ≡ 0) × ((l.returned.result.outcome ≡ 1) ⊎ (l.returned.result.outcome ≡ 2))

-- C1. No trade list at any price moves more than the auction's quantity.
abbrev pub NoListMovesMore : Session → Auction → AuctionLeaves Session → Type 0
NoListMovesMore s a l = (p : ℕ) (others : List Trade) → TradeList p (part s a) others → volume others ≤ l.returned.result.quantity

-- C2. Bought equals sold: both sides' fills sum to the quantity, what the orders of each side trade in the list does, and so do its entries.
pub record BoughtIsSold (s : Session) (a : Auction) (l : AuctionLeaves Session) : Type 0 where
  pub filled : (side : Side) → amount (fills side l.returned.result.quantity (part s a)) ≡ l.returned.result.quantity
  pub given : (side : Side) → sum (λ o. counted (on_side side o) (traded side o.number (listed l))) (part s a) ≡ l.returned.result.quantity
  pub moved : volume (listed l) ≡ l.returned.result.quantity

-- C3. If an order gets anything, every better ranked order of its side that takes part is filled.
abbrev pub NobodyPassedOver : Session → Auction → AuctionLeaves Session → Type 0
NobodyPassedOver s a l = (side : Side) (x y : Resting) → x ∈ part s a → y ∈ part s a → T (on_side side x) → T (on_side side y) → T (ahead side x y) → 0 < traded side y.number (listed l)
    → traded side x.number (listed l) ≡ x.left

-- C4. Nothing left: among what is left of those taking part, the executable quantity at every price is 0; and so it is among those of the
-- session afterwards.
pub record NothingLeft (s : Session) (a : Auction) (l : AuctionLeaves Session) : Type 0 where
  pub of-those : (q : ℕ) → executable (map (remaining (listed l)) (part s a)) q ≡ 0
  pub resting-after : (q : ℕ) → executable (part l.returned.session a) q ≡ 0

-- C6. The list itself: as many quadruples as the count says, at most 511, each a trade of a buy and a sell taking part, within both limits at the
-- price, at the price, no order beyond its quantity, in the paper's pairing order, summing to the quantity; further entries as before.
pub record ListWritten (s : Session) (a : Auction) (list : List ℕ) (l : AuctionLeaves Session) : Type 0 where
  pub as_many : length (listed l) ≡ l.returned.result.count
  pub at_most : l.returned.result.count ≤ max_trades
  pub within-limits : TradeList l.returned.result.price (part s a) (listed l)
  pub priced : length (prices_read l.returned.result.count l.list) ≡ l.returned.result.count
  pub at-the-price : (p : ℕ) → p ∈ prices_read l.returned.result.count l.list → p ≡ l.returned.result.price
  pub of-something : (t : Trade) → t ∈ listed l → 0 < t.quantity
  pub in-pairing-order : listed l ≡ paired (fills Buy l.returned.result.quantity (part s a)) (fills Sell l.returned.result.quantity (part s a))
  pub sums : volume (listed l) ≡ l.returned.result.quantity
  pub further : drop (numbers_per_trade * l.returned.result.count) l.list ≡ drop (numbers_per_trade * l.returned.result.count) list
  pub as_long : length l.list ≡ length list

-- B8. Book after, place by place: of each order what it had less what the trades gave it, gone where that is 0 or its validity ends (`rest_of`); a
-- free place stays as it was. Those that don't take part trade nothing and stay as they were.
pub record BookAfter (s : Session) (a : Auction) (l : AuctionLeaves Session) : Type 0 where
  pub at_each : (p : ℕ) → p < places → AfterAt (rest_of a (listed l)) s.book l.returned.session.book p
  pub trade-nothing : (o : Resting) → o ∈ resting s.book → T (not (takes_part a o.validity)) → traded o.side o.number (listed l) ≡ 0
  pub others : (p : ℕ) → p < places → is_taken s.book.taken p ≡ true → T (not (takes_part a (order_at s.book p).validity))
      → (is_taken l.returned.session.book.taken p ≡ true) × (order_at l.returned.session.book p ≡ order_at s.book p)

-- those that don't take part are named by no trade
untouched : (p : ℕ) (a : Auction) (orders : List Resting) (ts : List Trade) → Distinct orders → TradeList p (taking_part a orders) ts
    → (o : Resting) → o ∈ orders → T (not (takes_part a o.validity)) → traded o.side o.number ts ≡ 0
unfolding traded
untouched p a orders ts d possible o m away = sum-none _ ts (λ t n. go t n (eqb (party o.side t) o.number) (eqb→eq (party o.side t) o.number))
  where
    go : (t : Trade) → t ∈ ts → (b : Bool) → (T b → party o.side t ≡ o.number) → counted b t.quantity ≡ 0
    go t n false e = refl
    go t n true e =
        let (x, here, takes, named) = possible.parties o.side t n in
        let (rested, part) = taking_part-elim a orders here in
        let same : x ≡ o = distinct-one orders d rested m (sym named ∙ e tt) in
        absurd (T_not (takes_part a o.validity) away (rw same at part))

-- .. and rest as they are: only at-the-close orders stay away, and only from the opening, which doesn't end them
stays-whole : (a : Auction) (ts : List Trade) (o : Resting) → traded o.side o.number ts ≡ 0 → 0 < o.left → T (not (takes_part a o.validity)) → rest_of a ts o ≡ some o
unfolding rest_of
stays-whole a ts o e live away =
    let whole : o.left - traded o.side o.number ts ≡ o.left = omega (arith, e) in
    rw (whole, ne_eqb o.left 0 (λ z. omega arith), lasts a o.validity away)
  where
    lasts : (a : Auction) (v : Validity) → T (not (takes_part a v)) → ends a v ≡ false
    lasts Opening AtOpening h = absurd h
    lasts Opening AtClose h = refl
    lasts Opening Day h = absurd h
    lasts Opening LaterDay h = absurd h
    lasts Closing v h = absurd h

-- what rests afterwards and takes part is what is left of those that took part
module _ (legal : ℕ → Bool) (given : ℕ) (a : Auction) (ts : List Trade) (b : Book) (sound : SoundBook legal given b) where
  rest-remains : (o x : Resting) → rest_of a ts o ≡ some x → x ≡ remaining ts o
  unfolding rest_of
  rest-remains o x = go (leaves a (remaining ts o))
    where
      go : (t : Bool) → cond t none (some (remaining ts o)) ≡ some x → x ≡ remaining ts o
      go true e = absurd (none-ne-some x e)
      go false e = sym (some-injective (remaining ts o) x e)

  after-interest : (side : Side) (q : ℕ) → interest side q (map (remaining ts) (taking_part a (resting b))) ≡ 0 → interest side q (taking_part a (resting (changed (rest_of a ts) b))) ≡ 0
  unfolding interest
  after-interest side q none_left = sum-none wants (taking_part a (resting (changed (rest_of a ts) b))) each
    where
      wants : Resting → ℕ
      wants o = counted (accepts side q o) o.left

      nothing : (m n : ℕ) → m ≤ n → n ≡ 0 → m ≡ 0
      nothing m n h e = omega arith

      each : (x : Resting) → x ∈ taking_part a (resting (changed (rest_of a ts) b)) → wants x ≡ 0
      each x m =
          let (here, takes) = taking_part-elim a (resting (changed (rest_of a ts) b)) m in
          let (o, rested, left) = (changed-resting legal given (rest_of a ts) (rest-keeps legal given a ts) b sound x).0 here in
          let is = rest-remains o x left in
          let took = taking_part-intro a rested (rw is at takes) in
          rw is (nothing _ _ (le-sum (λ (y : Resting). wants (remaining ts y)) took) (sym (sum-map wants (remaining ts) (taking_part a (resting b))) ∙ none_left))

  after-executable : (q : ℕ) → executable (map (remaining ts) (taking_part a (resting b))) q ≡ 0 → executable (taking_part a (resting (changed (rest_of a ts) b))) q ≡ 0
  after-executable q e =
      ⊎_elim
      (λ h. omega (arith, after-interest Buy q (omega tests)))
      (λ h. omega (arith, after-interest Sell q (omega tests)))
      (decided (leb (interest Buy q (map (remaining ts) (taking_part a (resting b)))) (interest Sell q (map (remaining ts) (taking_part a (resting b))))))

-- outcome 1 or 2 by its number
numbered : (o : Outcome) → (outcome_number o ≡ 1) ⊎ (outcome_number o ≡ 2) → T (takes_place o)
numbered (Traded price quantity) h = tt
numbered NoTrade h = tt
numbered NonOpening h = ⊎_elim (λ i. absurd (omega arith)) (λ i. absurd (omega arith)) h
numbered (Delayed price quantity) h = ⊎_elim (λ i. absurd (omega arith)) (λ i. absurd (omega arith)) h

-- An auction that takes place, as it is carried out.
module _ (s : Session) (sound : Sound s) (a : Auction) (list : List ℕ) (room : trade_list_length ≤ length list) (h : T (takes_place (outcome_of s a))) where
  ranged : Ranged (resting s.book)
  ranged = sound-ranged s sound

  -- the list holds its trades, and the book has changed by them
  read_done : listed (auction_done s a list) ≡ trades_now s a
  read_done = trades-back (price_answered (outcome_of s a)) (trades_now s a) (drop (numbers_per_trade * length (trades_now s a)) list)

  changed-done : (session_after s a (part s a) (outcome_of s a)).book ≡ changed (rest_of a (trades_now s a)) s.book
  changed-done = go (outcome_of s a) h
    where
      go : (o : Outcome) → T (takes_place o) → (session_after s a (part s a) o).book ≡ changed (rest_of a (trades o (part s a))) s.book
      go (Traded price quantity) k = refl
      go NoTrade k = refl
      go NonOpening k = absurd k
      go (Delayed price quantity) k = absurd k

  moves-most : NoListMovesMore s a (auction_done s a list)
  unfolding outcome_of
  moves-most = no-list-moves-more (held_by s a) a s.parameters.threshold.0 s.reference.0 (resting s.book) ranged h

  sold : BoughtIsSold s a (auction_done s a list)
  unfolding outcome_of
  sold =
      let law = bought-is-sold (held_by s a) a s.parameters.threshold.0 s.reference.0 (resting s.book) ranged h in
      record { filled = law.filled; given = rw read_done law.given; moved = rw read_done law.moved }

  ordered : NobodyPassedOver s a (auction_done s a list)
  unfolding outcome_of
  ordered = rw read_done (nobody-passed-over (held_by s a) a s.parameters.threshold.0 s.reference.0 (resting s.book) ranged h)

  left_over : NothingLeft s a (auction_done s a list)
  unfolding outcome_of
  left_over =
      let law = nothing-left-could-trade (held_by s a) a s.parameters.threshold.0 s.reference.0 (resting s.book) ranged h in
      record {
        of-those = rw read_done law;
        resting-after = λ q. rw changed-done (after-executable (legal_price s) s.given a (trades_now s a) s.book sound.book-sound q (law q));
      }

  pairing-done : trades_now s a ≡ paired (fills Buy (quantity_answered (outcome_of s a)) (part s a)) (fills Sell (quantity_answered (outcome_of s a)) (part s a))
  unfolding trades_of
  pairing-done = go (outcome_of s a) h
    where
      go : (o : Outcome) → T (takes_place o) → trades o (part s a) ≡ trades_of (quantity_answered o) (part s a)
      go (Traded price quantity) k = refl
      go NoTrade k = sym (trades-none (part s a))
      go NonOpening k = absurd k
      go (Delayed price quantity) k = absurd k

  list_done : ListWritten s a list (auction_done s a list)
  unfolding outcome_of
  list_done =
      let law = list-of-trades (held_by s a) a s.parameters.threshold.0 s.reference.0 (resting s.book) ranged h in
      let price = price_answered (outcome_of s a) in
      let rest = drop (numbers_per_trade * length (trades_now s a)) list in
      let prices = prices-back price (trades_now s a) rest in
      let size = quadruples-length price (trades_now s a) in
      record {
        as_many = rw read_done;
        at_most = law.at_most;
        within-limits = rw read_done law.within-limits;
        priced = prices.0;
        at-the-price = prices.1;
        of-something = rw read_done law.of-something;
        in-pairing-order = read_done ∙ pairing-done;
        sums = rw read_done law.sums;
        further = drop_at (quadruples price (trades_now s a)) rest (numbers_per_trade * length (trades_now s a)) size;
        as_long = length-append (quadruples price (trades_now s a)) rest ∙ rw (length-drop (numbers_per_trade * length (trades_now s a)) list) (omega (arith, size, law.at_most, room));
      }

  away-done : (o : Resting) → o ∈ resting s.book → T (not (takes_part a o.validity)) → traded o.side o.number (trades_now s a) ≡ 0
  away-done = untouched (price_answered (outcome_of s a)) a (resting s.book) (trades_now s a) ranged.distinct (rw read_done at list_done.within-limits)

  after-done : (p : ℕ) → p < places → AfterAt (rest_of a (trades_now s a)) s.book (session_after s a (part s a) (outcome_of s a)).book p
  after-done =
      rw changed-done
      (changed-at (legal_price s) s.given (rest_of a (trades_now s a)) (rest-keeps (legal_price s) s.given a (trades_now s a)) s.book sound.book-sound)

  book-done : BookAfter s a (auction_done s a list)
  book-done = record {
    at_each = rw read_done after-done;
    trade-nothing = rw read_done away-done;
    others = λ p here taken away.
        let o = order_at s.book p in
        let rests = resting-intro s.book places p here taken in
        (after-done p here).left o taken (stays-whole a (trades_now s a) o (away-done o rests away) (ranged.live o rests) away);
  }

-- Every auction that takes place is one of these.
module _ (s : Session) (sound : Sound s) (a : Auction) (list : List ℕ) (took : TookPlace (auctioned s (auction_number a) list)) where
  done : CarriedOut s a list
  done = carried-out s a list took.0

  placed : T (takes_place (outcome_of s a))
  placed = numbered (outcome_of s a) (rw done.leaves at took.1)

  -- C1.
  pub no-list-at-any-price-moves-more : NoListMovesMore s a (auctioned s (auction_number a) list)
  no-list-at-any-price-moves-more = subst (NoListMovesMore s a) (sym done.leaves) (moves-most s sound a list done.room placed)

  -- C2.
  pub as-much-bought-as-sold : BoughtIsSold s a (auctioned s (auction_number a) list)
  as-much-bought-as-sold = subst (BoughtIsSold s a) (sym done.leaves) (sold s sound a list done.room placed)

  -- C3.
  pub no-order-passed-over : NobodyPassedOver s a (auctioned s (auction_number a) list)
  no-order-passed-over = subst (NobodyPassedOver s a) (sym done.leaves) (ordered s sound a list done.room placed)

  -- C4.
  pub nothing-left-to-trade : NothingLeft s a (auctioned s (auction_number a) list)
  nothing-left-to-trade = subst (NothingLeft s a) (sym done.leaves) (left_over s sound a list done.room placed)

  -- C6.
  pub list_written : ListWritten s a list (auctioned s (auction_number a) list)
  list_written = subst (ListWritten s a list) (sym done.leaves) (list_done s sound a list done.room placed)

  -- B8.
  pub book-after : BookAfter s a (auctioned s (auction_number a) list)
  book-after = subst (BookAfter s a) (sym done.leaves) (book-done s sound a list done.room placed)
