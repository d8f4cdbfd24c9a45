-- "Could more have traded?" (C1 to C6), over the definitions, for the opening and for the closing.
use Rattle.std.specs.Prelude.{ℕ, ◌≤◌, ◌<◌, ◌↔◌, ◌≡◌, refl, List, map, T, length}
use Rattle.std.proofs.Common.{sym, ◌∙◌, arith}
use Rattle.lists.specs.Sums.{◌∈◌, counted, sum}
use Rattle.terms.specs.Bounds.{places, max_trades}
use Rattle.terms.specs.Orders.{Resting}
use Rattle.terms.specs.declared.orders.{Side.Side, Auction.Auction, Auction.TheVariants.Opening, Auction.TheVariants.Closing}
use Rattle.book.specs.Resting.{resting}
use Rattle.book.specs.ByPlace.{resting-length}
use Rattle.session.specs.declared.{Session.Session}
use Rattle.session.specs.Sound.{legal_price, Sound}
use Rattle.answers.specs.Auctions.{held_by}
use Rattle.queue.proofs.Reach.{resting-distinct, resting-live}
use Rattle.queue.specs.Part.{taking_part}
use Rattle.queue.proofs.Part.{taking_part-distinct, taking_part-elim, taking_part-length}
use Rattle.queue.specs.Distinct.{Distinct}
use Rattle.queue.specs.Rank.{ahead, on_side}
use Rattle.price.specs.Interest.{interest, executable}
use Rattle.price.proofs.Interest.{executable-within}
use Rattle.price.specs.Candidates.{most_executable}
use Rattle.price.proofs.Chain.{price-best, price-none, price-most, no-price-most}
use Rattle.trades.specs.declared.{Trade.Trade}
use Rattle.auction.specs.declared.{Outcome.Outcome, Outcome.TheVariants.Traded, Outcome.TheVariants.NoTrade, Outcome.TheVariants.NonOpening, Outcome.TheVariants.Delayed}
use Rattle.trades.specs.Trades.{traded, volume, TradeList}
use Rattle.trades.proofs.Trades.{volume-le-executable}
use Rattle.trades.specs.Pairing.{amount}
use Rattle.trades.specs.TradesOf.{fills, trades_of}
use Rattle.trades.proofs.TradesOf.{trades-none, fills-amount, trades-volume, trades-possible, trades-in-order, trades-positive, traded-side, trades-count}
use Rattle.auction.specs.declared.Held.{Held}
use Rattle.auction.specs.Outcome.{outcome, trades, price_answered, quantity_answered, count_answered, takes_place}
use Rattle.auction.proofs.OutcomeLaws.{outcome-traded, outcome-no-trade, outcome-prevented, unheld-takes-place}
use Rattle.auction.specs.After.{remaining}
use Rattle.auction.proofs.Left.{nothing_left}
use Rattle.auction.specs.NonOpening.{Fillable}
use Rattle.auction.proofs.NonOpening.{non-opening-exactly}

-- What every book has: distinct numbers, something open in each order, and no more orders than places.
pub record Ranged (resting : List Resting) : Type 0 where
  pub distinct : Distinct resting
  pub live : (o : Resting) → o ∈ resting → 0 < o.left
  pub few : length resting ≤ places

-- every session that can be reached has such a book (A6)
pub sound-ranged : (s : Session) → Sound s → Ranged (resting s.book)
sound-ranged s sound = record {
  distinct = resting-distinct (legal_price s) s.given s.book sound.book-sound;
  live = resting-live (legal_price s) s.given s.book sound.book-sound;
  few = resting-length s.book places;
}

-- An auction of the resting orders: what may hold it back, its threshold and reference price are any.
module _ (held : Held) (a : Auction) (threshold reference : ℕ) (resting : List Resting) where
  -- those taking part, the outcome, its quantity and its trades
  abbrev pub book : List Resting
  book = taking_part a resting

  abbrev pub result : Outcome
  result = outcome held threshold reference book

  abbrev pub quantity : ℕ
  quantity = quantity_answered result

  abbrev pub done : List Trade
  done = trades result book

  -- of an auction that takes place: at its price both sides have the quantity, and no price executes more
  record TookPlace (o : Outcome) : Type 0 where
    enough : (s : Side) → quantity_answered o ≤ interest s (price_answered o) book
    best : (q : ℕ) → executable book q ≤ quantity_answered o
    most : quantity_answered o ≡ most_executable reference book
    exact : trades o book ≡ trades_of (quantity_answered o) book

  took-place : T (takes_place result) → TookPlace result
  took-place h = go result refl h
    where
      go : (o : Outcome) → result ≡ o → T (takes_place o) → TookPlace o
      go (Traded p q) e h =
          let (found, i) = outcome-traded held threshold reference book p q e in
          record { enough = λ s. omega (arith, executable-within s p book); best = λ r. omega (arith, price-best reference book p found r); most = i ∙ price-most reference book p found; exact = refl }
      go NoTrade e h =
          let found = outcome-no-trade held threshold reference book e in
          record { enough = λ s. omega arith; best = λ r. omega (arith, (price-none reference book).0 found r); most = sym (no-price-most reference book found); exact = sym (trades-none book) }
      go NonOpening e h = absurd h
      go (Delayed p q) e h = absurd h

  module _ (ranged : Ranged resting) (h : T (takes_place result)) where
    distinct : Distinct book
    distinct = taking_part-distinct a resting ranged.distinct

    -- C1. No trade list at any price moves more than the auction's quantity.
    pub no-list-moves-more : (p : ℕ) (others : List Trade) → TradeList p book others → volume others ≤ quantity
    no-list-moves-more p others possible = omega (arith, volume-le-executable p book others possible, (took-place h).best p)

    -- .. and that is the highest executable quantity
    pub executes-the-most : quantity ≡ most_executable reference book
    executes-the-most = (took-place h).most

    -- C2. Bought equals sold: both sides' fills sum to the quantity, what the orders of each side trade does, and so do the trades.
    pub record BoughtIsSold : Type 0 where
      pub filled : (s : Side) → amount (fills s quantity book) ≡ quantity
      pub given : (s : Side) → sum (λ o. counted (on_side s o) (traded s o.number done)) book ≡ quantity
      pub moved : volume done ≡ quantity

    pub bought-is-sold : BoughtIsSold
    bought-is-sold =
        let g = took-place h in
        record {
          filled = fills-amount (price_answered result) quantity book distinct g.enough;
          given = λ s. rw g.exact (traded-side (price_answered result) quantity book distinct g.enough s);
          moved = rw g.exact (trades-volume (price_answered result) quantity book distinct g.enough);
        }

    -- C3. If an order gets anything, every better ranked order of its side that takes part is filled.
    pub nobody-passed-over : (s : Side) (x y : Resting) → x ∈ book → y ∈ book → T (on_side s x) → T (on_side s y) → T (ahead s x y) → 0 < traded s y.number done
        → traded s x.number done ≡ x.left
    nobody-passed-over s x y mx my sx sy k = let g = took-place h in rw g.exact (trades-in-order (price_answered result) quantity book distinct g.enough s x y mx my sx sy k)

    -- C4. Nothing left: among what is left of those taking part, the executable quantity at every price is 0.
    pub nothing-left-could-trade : (q : ℕ) → executable (map (remaining done) book) q ≡ 0
    nothing-left-could-trade q = let g = took-place h in rw g.exact (nothing_left (price_answered result) quantity book distinct g.enough g.best q)

    -- C6, of the trades: at most 511 and as many as answered, each of a buy and a sell taking part that accept the price, no order beyond its
    -- quantity, no trade of nothing, summing to the quantity.
    pub record ListOfTrades : Type 0 where
      pub counted-as-answered : count_answered result book ≡ length done
      pub at_most : length done ≤ max_trades
      pub within-limits : TradeList (price_answered result) book done
      pub of-something : (t : Trade) → t ∈ done → 0 < t.quantity
      pub sums : volume done ≡ quantity

    pub list-of-trades : ListOfTrades
    list-of-trades =
        let g = took-place h in
        record {
          counted-as-answered = refl;
          at_most = rw g.exact (omega (arith, trades-count quantity book, taking_part-length a resting, ranged.few));
          within-limits = rw g.exact (trades-possible (price_answered result) quantity book distinct g.enough);
          of-something = rw g.exact (trades-positive (price_answered result) quantity book distinct g.enough (λ o m. ranged.live o (taking_part-elim a resting m).0));
          sums = bought-is-sold.moved;
        }

-- C5. Non Opening exactly when no trade list at any price fills every unlimited order taking part ..
pub non-opening-when-unfillable : (s : Session) (threshold reference : ℕ) (resting : List Resting) → Distinct resting
    → (result (held_by s Opening) Opening threshold reference resting ≡ NonOpening) ↔ (Fillable (taking_part Opening resting) → ⊥)
non-opening-when-unfillable s threshold reference resting d =
    let exactly = non-opening-exactly reference (taking_part Opening resting) (taking_part-distinct Opening resting d) in
    let prevents = outcome-prevented (held_by s Opening) threshold reference (taking_part Opening resting) in
    ((λ e. exactly.0 (prevents.0 e)), (λ no. prevents.1 (exactly.1 no)))

-- .. and a closing is never held back
pub every-closing-takes-place : (s : Session) (threshold reference : ℕ) (resting : List Resting) → T (takes_place (result (held_by s Closing) Closing threshold reference resting))
every-closing-takes-place s threshold reference resting = unheld-takes-place threshold reference (taking_part Closing resting)
