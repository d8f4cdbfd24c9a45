-- The ranked queue of a sound book, told by the ranks of its places.
use Prim.Native.Nat.{ℕ, zero, suc, ◌+◌, ◌≤◌, ◌<◌}
use Rattle.std.specs.Prelude.{Bool, ◌&&◌, ◌≢◌, ◌≡◌, T, ltb, eqb, get_or}
use Rattle.std.proofs.Math.Bool.{true, false, cond}
use Rattle.std.proofs.Common.{true≢false, sym, ◌∙◌}
use Rattle.std.proofs.Math.Path.{refl, ap}
use mathlib.Core.List.Memᴰ
use mathlib.Core.List.{List, [], ◌∷◌, ◌++◌, map, append_assoc, append-nil}
use native.Mathlib.Omega.{arith}
use Rattle.std.proofs.Math.Dec.{leb}
use Rattle.lists.specs.Tests.{tests, and_both}
use Rattle.lists.specs.Sums.{◌∈◌}
use Rattle.lists.specs.Choice.{keep}
use Rattle.lists.specs.Ranking.{rank, rank-elim, Agreeing, rank-map}
use Rattle.terms.specs.Bounds.{places, min_price, max_price}
use Rattle.terms.specs.Kinds.{is_price}
use Rattle.terms.specs.Orders.{Resting, side_number, side_from, validity_from, limit_from, is_limit}
use Rattle.terms.specs.declared.orders.{Side.Side, Side.TheVariants.Buy, Side.TheVariants.Sell, Auction.Auction}
use Rattle.terms.specs.Sides.{same_side}
use Rattle.book.specs.declared.Book.{Book}
use Rattle.places.specs.Places.{is_taken}
use Rattle.book.specs.Columns.{order_at}
use Rattle.book.specs.declared.Values.{Values}
use Rattle.book.specs.Resting.{resting_at, resting_to, resting}
use Rattle.book.specs.Sound.{SoundBook}
use Rattle.queue.specs.Sides.{allows, is_unlimited}
use Rattle.queue.specs.Part.{takes_part, taking_part}
use Rattle.queue.specs.Rank.{ahead, on_side, ranked}
use Rattle.queue.specs.RankNumbers.{limit_room, number_room, rank_of, rank_bound, place_of_rank, stands_as, ranks_from}
use Rattle.queue.proofs.Keys.{rank-place, rank-ahead, rank-allows, rank-unlimited}
use Rattle.queue.specs.Queue.{RankOfBook, rank_at, resting_from}

resting-on : (b : Book) (place n end : ℕ) → place + n ≡ end → resting_to b place ++ resting_from b place n ≡ resting_to b end
unfolding resting_to resting_from
resting-on b place zero end h = let e : place ≡ end = omega arith in append-nil (resting_to b place) ∙ ap (resting_to b) e
resting-on b place (suc n) end h = sym (append_assoc (resting_to b place) (resting_at b place) (resting_from b (suc place) n)) ∙ resting-on b (suc place) n end (omega arith)

resting-from : (b : Book) (n : ℕ) → resting_from b 0 n ≡ resting_to b n
unfolding resting_to
resting-from b n = resting-on b 0 n n (omega arith)

-- sides under their numbers
number-side : (s t : Side) → eqb (side_number t) (side_number s) ≡ same_side s t
number-side Buy Buy = refl
number-side Buy Sell = refl
number-side Sell Buy = refl
number-side Sell Sell = refl

coded-stands : (s : Side) (a : Auction) (x y : ℕ) → side_number (side_from x) ≡ x → stands_as s a x y ≡ (same_side s (side_from x) && takes_part a (validity_from y))
coded-stands s a x y e = rw (← number-side s (side_from x), e)

zero-stands : (s : Side) (a : Auction) (y : ℕ) → stands_as s a 0 y ≡ false
zero-stands Buy a y = refl
zero-stands Sell a y = refl

-- a price has room in a rank ..
pub price-room : (p : ℕ) → T (is_price p) → (0 < p) × (p < limit_room)
price-room p h = let (low, high) = and_both (leb min_price p) (leb p max_price) h in (omega tests, omega tests)

-- .. and so has a limit under its number
limit-room : (l : ℕ) → T (is_limit (limit_from l)) → l < limit_room
limit-room zero h = omega arith
limit-room (suc l) h = (price-room (suc l) h).1

module _ (legal : ℕ → Bool) (given : ℕ) (b : Book) (sound : SoundBook legal given b) (enough : given < number_room) (s : Side) where
  -- a taken place
  module _ (p : ℕ) (here : p < places) (taken : is_taken b.taken p ≡ true) where
    small-limit : get_or b.limit p 0 < limit_room
    small-limit = limit-room (get_or b.limit p 0) ((sound.each p here).rests taken).limit-in-range

    small-number : get_or b.number p 0 < number_room
    small-number = omega (arith, ((sound.each p here).rests taken).given-already)

    rank-known : (r : ℕ) → r ≡ rank_at s b p → (place_of_rank r ≡ p) × RankOfBook s b r
    rank-known r i = (e, record { here = rw e here; taken = rw e taken; is = rw e i })
      where
        e : place_of_rank r ≡ p
        e = ap place_of_rank i ∙ rank-place s (get_or b.limit p 0) (get_or b.number p 0) p here

    -- A rank is below the bound of a price where the limit allows the price, and below that of none where there is no limit.
    pub allows-below : (price : ℕ) → 0 < price → price < limit_room
        → ltb (rank_of s (get_or b.limit p 0) (get_or b.number p 0) p) (rank_bound s price) ≡ allows s price (order_at b p).limit
    allows-below price low high = rank-allows s (get_or b.limit p 0) (get_or b.number p 0) p here small-limit small-number price low high

    pub unlimited-below : ltb (rank_of s (get_or b.limit p 0) (get_or b.number p 0) p) (rank_bound s 0) ≡ is_unlimited (order_at b p).limit
    unlimited-below = rank-unlimited s (get_or b.limit p 0) (get_or b.number p 0) p here small-limit small-number

  -- the ranks of two places compare as their orders do
  two-ranks : (q r : ℕ) → RankOfBook s b q → RankOfBook s b r → place_of_rank q ≢ place_of_rank r → leb q r ≡ ahead s (order_at b (place_of_rank q)) (order_at b (place_of_rank r))
  two-ranks q r k l apart =
      ap (λ (x : ℕ). leb x r) k.is
      ∙ ap (λ (x : ℕ). leb (rank_at s b (place_of_rank q)) x) l.is
      ∙ rank-ahead s (get_or b.limit (place_of_rank q) 0) (get_or b.number (place_of_rank q) 0) (place_of_rank q) k.here
      (small-limit (place_of_rank q) k.here k.taken) (small-number (place_of_rank q) k.here k.taken)
      (get_or b.limit (place_of_rank r) 0) (get_or b.number (place_of_rank r) 0) (place_of_rank r) l.here
      (small-limit (place_of_rank r) l.here l.taken) (small-number (place_of_rank r) l.here l.taken)
      (λ e. apart (sound.once (place_of_rank q) (place_of_rank r) k.here l.here k.taken l.taken e))

  module _ (a : Auction) where
    abbrev stands : ℕ → Bool
    stands p = stands_as s a (get_or b.side p 0) (get_or b.validity p 0)

    abbrev ranks_at : ℕ → ℕ → List ℕ
    ranks_at p n = ranks_from s a b.side b.validity b.limit b.number p n

    abbrev order_of_rank : ℕ → Resting
    order_of_rank r = order_at b (place_of_rank r)

    abbrev part : Resting → Bool
    part o = takes_part a o.validity

    -- what stands at a place takes part where its order does
    taken-stands : (p : ℕ) → p < places → is_taken b.taken p ≡ true → stands p ≡ (on_side s (order_at b p) && part (order_at b p))
    taken-stands p here taken =
        let e = (sound.each p here).coded taken in
        coded-stands s a (get_or b.side p 0) (get_or b.validity p 0) (ap (λ (r : Values). r.side) e)

    free-stands : (p : ℕ) → p < places → is_taken b.taken p ≡ false → stands p ≡ false
    free-stands p here free = ap (λ (x : ℕ). stands_as s a x (get_or b.validity p 0)) (ap (λ (r : Values). r.side) ((sound.each p here).free free)) ∙ zero-stands s a (get_or b.validity p 0)

    stands-taken : (p : ℕ) → p < places → stands p ≡ true → is_taken b.taken p ≡ true
    stands-taken p here e = go (is_taken b.taken p) refl
      where
        go : (t : Bool) → is_taken b.taken p ≡ t → is_taken b.taken p ≡ true
        go true i = i
        go false i = absurd (true≢false (sym e ∙ free-stands p here i))

    -- each rank of the places from one on is of a taken place there
    from-known : (p n : ℕ) → p + n ≤ places → (r : ℕ) → r ∈ ranks_at p n → (p ≤ place_of_rank r) × RankOfBook s b r
    unfolding ranks_from
    from-known p zero h r m = absurd (Memᴰ.not-nil m)
    from-known p (suc n) h r m = go (stands p) refl (from-known (suc p) n (omega arith) r) m
      where
        go : (t : Bool) → stands p ≡ t → (r ∈ ranks_at (suc p) n → (suc p ≤ place_of_rank r) × RankOfBook s b r) → r ∈ cond t (rank_at s b p ∷ ranks_at (suc p) n) (ranks_at (suc p) n)
            → (p ≤ place_of_rank r) × RankOfBook s b r
        go true e below (Memᴰ.head i) = let (at, known) = rank-known p (omega arith) (stands-taken p (omega arith) e) r i in (omega arith, known)
        go true e below (Memᴰ.tail k) = let (later, known) = below k in (omega arith, known)
        go false e below k = let (later, known) = below k in (omega arith, known)

    -- ranks compare as the orders that they stand for
    from-agree : (p n : ℕ) → p + n ≤ places → Agreeing order_of_rank leb (ahead s) (ranks_at p n)
    unfolding ranks_from
    from-agree p zero h = tt
    from-agree p (suc n) h = go (stands p) refl (from-agree (suc p) n (omega arith))
      where
        go : (t : Bool) → stands p ≡ t → Agreeing order_of_rank leb (ahead s) (ranks_at (suc p) n) → Agreeing order_of_rank leb (ahead s) (cond t (rank_at s b p ∷ ranks_at (suc p) n) (ranks_at (suc p) n))
        go true e below = (
          (λ y m.
              let (at, known) = rank-known p (omega arith) (stands-taken p (omega arith) e) (rank_at s b p) refl in
              let (later, other) = from-known (suc p) n (omega arith) y m in
              two-ranks (rank_at s b p) y known other (λ i. omega arith)),
          below,
        )
        go false e below = below

    -- the orders of the ranks are those that rest and take part on the side
    from-orders : (p n : ℕ) → p + n ≤ places → map order_of_rank (ranks_at p n) ≡ keep (on_side s) (keep part (resting_from b p n))
    unfolding ranks_from resting_from
    from-orders p zero h = refl
    from-orders p (suc n) h = go (is_taken b.taken p) refl (from-orders (suc p) n (omega arith))
      where
        here : p < places
        here = omega arith

        both : (x y : Bool) → on_side s (order_at b p) ≡ x → place_of_rank (rank_at s b p) ≡ p → map order_of_rank (ranks_at (suc p) n) ≡ keep (on_side s) (keep part (resting_from b (suc p) n))
            → map order_of_rank (cond (x && y) (rank_at s b p ∷ ranks_at (suc p) n) (ranks_at (suc p) n)) ≡ keep (on_side s) (cond y (order_at b p ∷ keep part (resting_from b (suc p) n)) (keep part (resting_from b (suc p) n)))
        both true true e at below = rw (e, at, below)
        both false true e at below = rw e below
        both true false e at below = below
        both false false e at below = below

        go : (t : Bool) → is_taken b.taken p ≡ t → map order_of_rank (ranks_at (suc p) n) ≡ keep (on_side s) (keep part (resting_from b (suc p) n))
            → map order_of_rank (cond (stands p) (rank_at s b p ∷ ranks_at (suc p) n) (ranks_at (suc p) n)) ≡ keep (on_side s) (keep part (cond t (order_at b p ∷ []) [] ++ resting_from b (suc p) n))
        go true e below = rw (taken-stands p here e) (both (on_side s (order_at b p)) (part (order_at b p)) refl (rank-known p here e (rank_at s b p) refl).0 below)
        go false e below = rw (free-stands p here e) below

    -- Each rank of the ranked queue is of a taken place.
    pub ranks-known : (r : ℕ) → r ∈ rank leb (ranks_from s a b.side b.validity b.limit b.number 0 places) → RankOfBook s b r
    ranks-known r m = (from-known 0 places (omega arith) r (rank-elim leb (ranks_at 0 places) m)).1

    -- The orders of the ranks, in the order of the ranks, are the ranked queue of those taking part.
    pub ranked-by-ranks : map (λ r. order_at b (place_of_rank r)) (rank leb (ranks_from s a b.side b.validity b.limit b.number 0 places)) ≡ ranked s (taking_part a (resting b))
    unfolding ranked taking_part
    ranked-by-ranks =
        rank-map order_of_rank leb (ahead s) (ranks_at 0 places) (from-agree 0 places (omega arith))
        ∙ ap (rank (ahead s)) (from-orders 0 places (omega arith) ∙ ap (λ (os : List Resting). keep (on_side s) (keep part os)) (resting-from b places))
