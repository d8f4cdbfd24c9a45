-- The trades of a sound book and what rests at each place, told by the ranks of its queues.
use Rattle.std.specs.Prelude.{ℕ, zero, suc, ◌-◌, ◌≤◌, ◌<◌, Bool, true, false, cond, ◌≢◌, ◌≡◌, refl, eqb, length, get_or, take}
use Rattle.std.proofs.Math.Path.{sym, ap}
use Rattle.std.proofs.Common.{◌∙◌, arith, ne_eqb, eqb→eq, take-append-drop}
use mathlib.Core.List.{List, [], ◌∷◌, ◌++◌, map, map-map}
use Rattle.std.proofs.Math.Dec.{eqb_refl}
use Rattle.std.proofs.Math.ListN.{drop, length-map}
use Rattle.lists.specs.Tests.{same_test}
use Rattle.lists.specs.Sums.{◌∈◌, counted, sum-none}
use Rattle.terms.specs.Bounds.{places}
use Rattle.terms.specs.Orders.{Resting, validity_from}
use Rattle.terms.specs.declared.orders.{Side.Side, Side.TheVariants.Buy, Side.TheVariants.Sell, Auction.Auction}
use Rattle.terms.proofs.Sides.{same_side-eq}
use Rattle.book.specs.declared.Book.{Book}
use Rattle.book.specs.declared.Values.{Values}
use Rattle.places.specs.Places.{is_taken, behind_taken}
use Rattle.places.specs.Words.{behind-within, behind-free}
use Rattle.book.specs.Columns.{values_at, order_at}
use Rattle.book.specs.Resting.{resting, changed}
use Rattle.book.specs.ByPlace.{resting-elim}
use Rattle.book.specs.Sound.{SoundBook}
use Rattle.book.specs.Settling.{settled_to, rest_from, settled-changed}
use Rattle.queue.specs.Part.{taking_part}
use Rattle.queue.proofs.Part.{taking_part-elim, taking_part-distinct}
use Rattle.queue.specs.Distinct.{Distinct}
use Rattle.queue.specs.Rank.{ranked}
use Rattle.queue.proofs.Rank.{ranked-elim}
use Rattle.queue.specs.RankNumbers.{number_room, place_of_rank, along}
use Rattle.queue.proofs.Reach.{resting-distinct}
use Rattle.queue.proofs.Queue.{ranks-known, ranked-by-ranks}
use Rattle.fills.specs.Fill.{Fill, fill, filled_by, has_number}
use Rattle.fills.proofs.Fill.{fill-all}
use Rattle.fills.specs.Shares.{shares_of, lessened}
use Rattle.fills.specs.ShareFills.{shared_at}
use Rattle.fills.proofs.ShareFills.{shares-fill, fill-orders, lessened-at, lessened-length, shared-at-fill}
use Rattle.price.specs.Interest.{interest}
use Rattle.trades.specs.Trades.{traded}
use Rattle.trades.specs.TradesOf.{fills, trades_of}
use Rattle.trades.proofs.TradesOf.{trades-filled}
use Rattle.auction.specs.After.{ends, rest_of}
use Rattle.trades.proofs.OverShares.{share-pairs}
use Rattle.auction.specs.Ended.{rest_with}
use Rattle.auction.proofs.Ended.{ended_at, rest_from_lem}
use Rattle.auction.specs.Trading.{ranks_on, shares_in, trades_in, left_in, rests_in}

front-map : {A B : Type 0} (f : A → B) (n : ℕ) (xs : List A) → take n (map f xs) ≡ map f (take n xs)
front-map f zero xs = refl
front-map f (suc n) [] = refl
front-map f (suc n) (x ∷ xs) = rw (front-map f n xs)

apart-sides : Sell ≡ Buy → ⊥
apart-sides e = let z : ◌≡◌ {A = ℕ} 0 1 = cc in omega arith

module _ (legal : ℕ → Bool) (given : ℕ) (b : Book) (sound : SoundBook legal given b) (few : given < number_room) (a : Auction) where
  abbrev part : List Resting
  part = taking_part a (resting b)

  abbrev order_of : ℕ → Resting
  order_of r = order_at b (place_of_rank r)

  -- The columns along a side's ranks are the columns of its ranked queue.
  along-on : (s : Side) (w : Resting → ℕ) → map (λ r. w (order_of r)) (ranks_on b a s) ≡ map w (ranked s part)
  along-on s w = sym (map-map w order_of (ranks_on b a s)) ∙ ap (map w) (ranked-by-ranks legal given b sound few s a)

  shares-on : (quantity : ℕ) (s : Side) → shares_in quantity b.left (ranks_on b a s) ≡ map (λ x. x.quantity) (fills s quantity part)
  unfolding fills
  shares-on quantity s = ap (shares_of quantity) (along-on s (λ o. o.left)) ∙ shares-fill quantity (ranked s part)

  numbers_on : (quantity : ℕ) (s : Side)
      → along b.number (ranks_on b a s) ≡ map (λ x. x.order.number) (fills s quantity part) ++ drop (length (fills s quantity part)) (map (λ o. o.number) (ranked s part))
  unfolding fills
  numbers_on quantity s =
      along-on s (λ o. o.number)
      ∙ sym (take-append-drop (length filled) (map number os))
      ∙ ap (λ (t : List ℕ). t ++ drop (length filled) (map number os))
      (front-map number (length filled) os ∙ ap (map number) (sym (fill-orders quantity os)) ∙ map-map number (λ (x : Fill). x.order) filled)
    where
      os : List Resting
      os = ranked s part

      filled : List Fill
      filled = fill quantity os

      number : Resting → ℕ
      number o = o.number

  -- The trades are those of the definition.
  pub trades-in : (quantity : ℕ) → trades_in quantity b.number b.left (ranks_on b a Buy) (ranks_on b a Sell) ≡ trades_of quantity part
  unfolding trades_in trades_of
  trades-in quantity =
      rw (shares-on quantity Buy, shares-on quantity Sell, numbers_on quantity Buy, numbers_on quantity Sell, length-map (fills Buy quantity part) (λ x. x.quantity), length-map (fills Sell quantity part) (λ x. x.quantity))
      (share-pairs (fills Buy quantity part) (fills Sell quantity part) _ _)

  -- what the trades leave at a place, as the shares lessen it, and what rests there
  module _ (quantity : ℕ) where
    abbrev shares : Side → List ℕ
    shares s = shares_in quantity b.left (ranks_on b a s)

    abbrev lefts : List ℕ
    lefts = left_in quantity b.left (ranks_on b a Buy) (ranks_on b a Sell)

    abbrev rests : List ℕ
    rests = rests_in a quantity b.validity b.left (ranks_on b a Buy) (ranks_on b a Sell)

    left-long : length lefts ≡ places
    unfolding left_in
    left-long = lessened-length (ranks_on b a Sell) _ (lessened (ranks_on b a Buy) _ b.left) ∙ lessened-length (ranks_on b a Buy) _ b.left ∙ sound.sized.left

    left_less : (p : ℕ) → p < places → get_or lefts p 0 ≡ get_or b.left p 0 - shared_at (ranks_on b a Buy) (shares Buy) p - shared_at (ranks_on b a Sell) (shares Sell) p
    unfolding left_in
    left_less p here =
        lessened-at (ranks_on b a Sell) (shares Sell) (lessened (ranks_on b a Buy) (shares Buy) b.left) p (omega (arith, lessened-length (ranks_on b a Buy) (shares Buy) b.left, sound.sized.left))
        ∙ ap (λ (n : ℕ). n - shared_at (ranks_on b a Sell) (shares Sell) p) (lessened-at (ranks_on b a Buy) (shares Buy) b.left p (omega (arith, sound.sized.left)))

    rest-with : (p : ℕ) → p < places → get_or rests p 0 ≡ rest_with a (get_or b.validity p 0) (get_or lefts p 0)
    rest-with p here = ended_at a b.validity lefts p here (omega (arith, left-long))

    -- nothing at a free place
    rest-free : (p : ℕ) → p < places → is_taken b.taken p ≡ false → get_or rests p 0 ≡ 0
    rest-free p here free = rest-with p here ∙ rw nothing (none_left (ends a (validity_from (get_or b.validity p 0))))
      where
        nothing : get_or lefts p 0 ≡ 0
        nothing = omega (arith, left_less p here, ap (λ (r : Values). r.left) ((sound.each p here).free free))

        none_left : (e : Bool) → ◌≡◌ {A = ℕ} (cond e 0 0) 0
        none_left true = refl
        none_left false = refl

  -- places tell the orders of a book apart as numbers do
  module _ (p : ℕ) (here : p < places) (taken : is_taken b.taken p ≡ true) where
    same-order : (s : Side) (r : ℕ) → r ∈ ranks_on b a s → eqb (place_of_rank r) p ≡ eqb (order_of r).number (order_at b p).number
    same-order s r m =
        let k = ranks-known legal given b sound few s a r m in
        same_test (eqb (place_of_rank r) p) (eqb (order_of r).number (order_at b p).number)
        (λ t. let e = eqb→eq (place_of_rank r) p t in rw e (eqb_refl (order_at b p).number))
        (λ t. let e = sound.once (place_of_rank r) p k.here here k.taken taken (eqb→eq (order_of r).number (order_at b p).number t) in rw e (eqb_refl p))

    shared-on : (quantity : ℕ) (s : Side) → shared_at (ranks_on b a s) (shares_in quantity b.left (ranks_on b a s)) p ≡ filled_by (has_number (order_at b p).number) (fills s quantity part)
    unfolding fills
    shared-on quantity s =
        shared-at-fill order_of (ranks_on b a s) p (order_at b p).number quantity (same-order s)
        ∙ ap (λ (os : List Resting). filled_by (has_number (order_at b p).number) (fill quantity os)) (ranked-by-ranks legal given b sound few s a)

    -- on the other side nothing is filled under its number
    other-fill : (quantity : ℕ) (s : Side) → s ≢ (order_at b p).side → filled_by (has_number (order_at b p).number) (fills s quantity part) ≡ 0
    unfolding fills
    other-fill quantity s apart =
        sum-none (λ x. counted (has_number (order_at b p).number x.order) x.quantity) (fill quantity (ranked s part))
        (fill-all (λ x. counted (has_number (order_at b p).number x.order) x.quantity ≡ 0) quantity (ranked s part) (λ o n m. rw (ne_eqb o.number (order_at b p).number (differs o m))))
      where
        differs : (o : Resting) → o ∈ ranked s part → o.number ≢ (order_at b p).number
        differs o m i =
            let (listed, on) = ranked-elim s part m in
            let there = resting-elim b places (taking_part-elim a (resting b) listed).0 in
            let e : there.place ≡ p = sound.once there.place p there.below here there.taken taken (ap (λ (x : Resting). x.number) (sym there.is) ∙ i) in
            apart (same_side-eq s o.side on ∙ ap (λ (x : Resting). x.side) (there.is ∙ ap (order_at b) e))

    module _ (price quantity : ℕ) (enough : (s : Side) → quantity ≤ interest s price part) where
      distinct : Distinct part
      distinct = taking_part-distinct a (resting b) (resting-distinct legal given b sound)

      -- what the trades leave at the place
      left_at : get_or (lefts quantity) p 0 ≡ (order_at b p).left - traded (order_at b p).side (order_at b p).number (trades_of quantity part)
      left_at = go (order_at b p).side refl
        where
          go : (t : Side) → (order_at b p).side ≡ t → get_or (lefts quantity) p 0 ≡ (order_at b p).left - traded t (order_at b p).number (trades_of quantity part)
          go Buy e = omega (arith, left_less quantity p here, shared-on quantity Buy, trades-filled price quantity part distinct enough Buy (order_at b p).number, shared-on quantity Sell, other-fill quantity Sell (λ i. apart-sides (i ∙ e)))
          go Sell e = omega (arith, left_less quantity p here, shared-on quantity Sell, trades-filled price quantity part distinct enough Sell (order_at b p).number, shared-on quantity Buy, other-fill quantity Buy (λ i. apart-sides (sym (i ∙ e))))

      -- .. and what rests there
      rest_at : rest_of a (trades_of quantity part) (order_at b p) ≡ rest_from (get_or (rests quantity) p 0) (values_at b p)
      rest_at =
          rest_from_lem a (trades_of quantity part) b p (get_or (lefts quantity) p 0) left_at
          ∙ ap (λ (n : ℕ). rest_from n (values_at b p)) (sym (rest-with quantity p here))

  -- The book after them is the changed book.
  pub rests-in : (price quantity : ℕ) → ((s : Side) → quantity ≤ interest s price part)
      → settled_to (rests quantity) b (behind_taken b.taken) ≡ changed (rest_of a (trades_of quantity part)) b
  rests-in price quantity enough =
      settled-changed legal given (rest_of a (trades_of quantity part)) (rests quantity) b sound (λ p here taken. rest_at p here taken price quantity enough) (rest-free quantity)
      (behind_taken b.taken) (behind-within b.taken) (behind-free b.taken)
