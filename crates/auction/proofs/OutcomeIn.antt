-- The outcome of a sound book, told by the ranks of its queues and what is open along them.
use Rattle.std.specs.Prelude.{ℕ, zero, suc, ◌<◌, Bool, ◌⊎◌, ◌≡◌, refl, T, ltb, get_or}
use Rattle.std.proofs.Math.Option.{some}
use Rattle.std.proofs.Common.{inl, inr, sym, ap, ◌∙◌, arith}
use mathlib.Core.List.Memᴰ
use mathlib.Core.List.{List, [], ◌∷◌, map, map-map, map_congr_left}
use Rattle.lists.specs.Sums.{◌∈◌}
use Rattle.terms.specs.Kinds.{is_price}
use Rattle.terms.specs.Orders.{Resting, limit_number, limit_from, at_price}
use Rattle.terms.specs.declared.orders.{Side.Side, Side.TheVariants.Buy, Side.TheVariants.Sell, Auction.Auction, Limit.Limit, Limit.TheVariants.Unlimited, Limit.TheVariants.At}
use Rattle.book.specs.declared.Book.{Book}
use Rattle.book.specs.Columns.{order_at}
use Rattle.book.specs.Resting.{resting}
use Rattle.book.specs.Sound.{SoundBook}
use Rattle.queue.specs.Sides.{is_unlimited}
use Rattle.queue.specs.Part.{taking_part}
use Rattle.queue.proofs.Part.{taking_part-elim, taking_part-distinct}
use Rattle.queue.specs.Distinct.{Distinct}
use Rattle.queue.specs.Rank.{on_side, ranked}
use Rattle.queue.proofs.Rank.{ranked-elim, ranked-intro}
use Rattle.queue.specs.RankNumbers.{limit_room, number_room, place_of_rank, rank_bound, along}
use Rattle.queue.proofs.Reach.{resting-sound, resting-distinct}
use Rattle.queue.proofs.Queue.{price-room, allows-below, unlimited-below, ranks-known, ranked-by-ranks}
use Rattle.price.specs.declared.search.{Found.Found}
use Rattle.price.specs.Interest.{interest, demand, supply}
use Rattle.price.specs.Candidates.{add_limit, limits, candidates, most_executable}
use Rattle.price.specs.Chain.{auction_price}
use Rattle.price.specs.Search.{offered, searched_in}
use Rattle.price.proofs.Ladder.{sum-below-front, offered-is-interest}
use Rattle.price.proofs.SearchFinds.{searched-most, searched-price}
use Rattle.trades.proofs.TradesOf.{queue-left}
use Rattle.auction.proofs.NonOpening.{unlimited-front}
use Rattle.auction.specs.declared.Held.{Held}
use Rattle.auction.specs.Outcome.{unlimited, outcome}
use Rattle.auction.proofs.Decided.{decided}
use Rattle.auction.specs.Trading.{ranks_on, unlimited_in, outcome_in}

number-from : (l : ℕ) → l ≡ limit_number (limit_from l)
number-from zero = refl
number-from (suc l) = refl

-- the limits of a book are those of its orders ..
limits-elim : (book : List Resting) {p : ℕ} → p ∈ limits book → (o : Resting) × (o ∈ book) × (o.limit ≡ at_price p)
limits-elim [] m = absurd (Memᴰ.not-nil m)
limits-elim (o ∷ os) {p} m = go o.limit refl (limits-elim os) m
  where
    go : (w : Limit) → o.limit ≡ w → (p ∈ limits os → (x : Resting) × (x ∈ os) × (x.limit ≡ at_price p)) → p ∈ add_limit w (limits os) → (x : Resting) × (x ∈ (o ∷ os)) × (x.limit ≡ at_price p)
    go Unlimited e below m = let (x, n, i) = below m in (x, Memᴰ.tail n, i)
    go (At l) e below (Memᴰ.head i) = (o, Memᴰ.head refl, e ∙ ap at_price (sym i))
    go (At l) e below (Memᴰ.tail m) = let (x, n, i) = below m in (x, Memᴰ.tail n, i)

limits-intro : (book : List Resting) {o : Resting} {p : ℕ} → o ∈ book → o.limit ≡ at_price p → p ∈ limits book
limits-intro [] m e = absurd (Memᴰ.not-nil m)
limits-intro (x ∷ xs) {o} {p} (Memᴰ.head i) e = let l : x.limit ≡ at_price p = ap (λ (y : Resting). y.limit) (sym i) ∙ e in rw l (Memᴰ.head refl)
limits-intro (x ∷ xs) {o} {p} (Memᴰ.tail m) e = later x.limit (limits-intro xs m e)
  where
    later : (w : Limit) → p ∈ limits xs → p ∈ add_limit w (limits xs)
    later Unlimited n = n
    later (At l) n = Memᴰ.tail n

-- .. and so are their numbers, but for 0, which is none
number-listed : (book : List Resting) {o : Resting} → o ∈ book → (p : ℕ) → limit_number o.limit ≡ p → (p ≡ 0) ⊎ (p ∈ limits book)
number-listed book {o} m p i = go o.limit refl i
  where
    go : (w : Limit) → o.limit ≡ w → limit_number w ≡ p → (p ≡ 0) ⊎ (p ∈ limits book)
    go Unlimited e i = inl (sym i)
    go (At l) e i = inr (limits-intro book m (e ∙ ap at_price i))

module _ (legal : ℕ → Bool) (given : ℕ) (b : Book) (sound : SoundBook legal given b) (few : given < number_room) (a : Auction) where
  abbrev part : List Resting
  part = taking_part a (resting b)

  abbrev order_of : ℕ → Resting
  order_of r = order_at b (place_of_rank r)

  distinct : Distinct part
  distinct = taking_part-distinct a (resting b) (resting-distinct legal given b sound)

  -- A side: what it offers at a price, and its limits under their numbers.
  module _ (s : Side) where
    abbrev offers : ℕ → ℕ
    offers p = offered s b.left (ranks_on b a s) p

    abbrev entries : List ℕ
    entries = along b.limit (ranks_on b a s)

    queue : map order_of (ranks_on b a s) ≡ ranked s part
    queue = ranked-by-ranks legal given b sound few s a

    unlimited-on : unlimited_in s b.left (ranks_on b a s) ≡ unlimited s part
    unlimited-on =
        sum-below-front (λ o. is_unlimited o.limit) (rank_bound s 0) b.left order_of (λ r. refl) (ranks_on b a s)
        (λ r m. let k = ranks-known legal given b sound few s a r m in
        ap (λ (x : ℕ). ltb x (rank_bound s 0)) k.is ∙ unlimited-below legal given b sound few s (place_of_rank r) k.here k.taken)
        (rw queue (unlimited-front s part distinct))
        ∙ rw queue (queue-left s (λ o. is_unlimited o.limit) part)

    offered-on : (p : ℕ) → (0 < p) × (p < limit_room) → offers p ≡ interest s p part
    offered-on p (low, high) =
        offered-is-interest s p part distinct b.left order_of (ranks_on b a s) (λ r. refl) queue
        (λ r m. let k = ranks-known legal given b sound few s a r m in
        ap (λ (x : ℕ). ltb x (rank_bound s p)) k.is ∙ allows-below legal given b sound few s (place_of_rank r) k.here k.taken p low high)

    entries-on : entries ≡ map (λ o. limit_number o.limit) (ranked s part)
    entries-on =
        map_congr_left {l = ranks_on b a s} (λ r m. number-from (get_or b.limit (place_of_rank r) 0))
        ∙ sym (map-map (λ (o : Resting). limit_number o.limit) order_of (ranks_on b a s))
        ∙ ap (map (λ (o : Resting). limit_number o.limit)) queue

    -- each is 0 or a limit of the orders taking part, and those of the side are all there
    entries-known : (p : ℕ) → p ∈ entries → (p ≡ 0) ⊎ (p ∈ limits part)
    entries-known p m =
        let (o, n, i) = Memᴰ.of_map (λ (o : Resting). limit_number o.limit) (ranked s part) (rw entries-on at m) in
        number-listed part (ranked-elim s part n).0 p i

    entered : (p : ℕ) (o : Resting) → o ∈ part → T (on_side s o) → o.limit ≡ at_price p → p ∈ entries
    entered p o m on e = rw entries-on (rw e at (Memᴰ.map (λ (x : Resting). limit_number x.limit) (ranked-intro s m on)))

  all-entered : (p : ℕ) → p ∈ limits part → (p ∈ entries Buy) ⊎ (p ∈ entries Sell)
  all-entered p m = let (o, n, e) = limits-elim part m in go o n e o.side refl
    where
      go : (o : Resting) → o ∈ part → o.limit ≡ at_price p → (t : Side) → o.side ≡ t → (p ∈ entries Buy) ⊎ (p ∈ entries Sell)
      go o n e Buy i = inl (entered Buy p o n (rw i tt) e)
      go o n e Sell i = inr (entered Sell p o n (rw i tt) e)

  -- they are prices, since the book is sound
  limit-room : (p : ℕ) → p ∈ limits part → (0 < p) × (p < limit_room)
  limit-room p m =
      let (o, n, e) = limits-elim part m in
      price-room p (rw e at (resting-sound legal given b sound o (taking_part-elim a (resting b) n).0).limit-in-range)

  no_zero : 0 ∈ limits part → ⊥
  no_zero m = let (low, high) = limit-room 0 m in omega arith

  -- With a reference price every candidate is a price, and the search finds what the definition says.
  module _ (reference : ℕ) (is-price : T (is_price reference)) where
    candidate-room : (p : ℕ) → p ∈ candidates reference part → (0 < p) × (p < limit_room)
    candidate-room p (Memᴰ.head e) = rw e (price-room reference is-price)
    candidate-room p (Memᴰ.tail m) = limit-room p m

    offered-both : (p : ℕ) → p ∈ candidates reference part → (offers Buy p ≡ demand part p) × (offers Sell p ≡ supply part p)
    offered-both p m = (offered-on Buy p (candidate-room p m), offered-on Sell p (candidate-room p m))

    abbrev found : Found
    found = searched_in reference (offers Buy) (offers Sell) (entries Buy) (entries Sell)

    found-most : found.most ≡ most_executable reference part
    found-most = searched-most reference part (offers Buy) (offers Sell) (entries Buy) (entries Sell) offered-both (entries-known Buy) (entries-known Sell) all-entered no_zero

    found-price : 0 < most_executable reference part → auction_price reference part ≡ some found.price
    found-price = searched-price reference part (offers Buy) (offers Sell) (entries Buy) (entries Sell) offered-both (entries-known Buy) (entries-known Sell) all-entered no_zero

  -- The outcome is that of the definition.
  pub outcome-in : (held : Held) (threshold reference : ℕ) → T (is_price reference)
      → outcome_in held threshold reference b.limit b.left (ranks_on b a Buy) (ranks_on b a Sell) ≡ outcome held threshold reference (taking_part a (resting b))
  unfolding outcome_in
  outcome-in held threshold reference is-price =
      decided held threshold reference part (found reference is-price) (unlimited_in Buy b.left (ranks_on b a Buy)) (unlimited_in Sell b.left (ranks_on b a Sell))
      (found-most reference is-price) (found-price reference is-price) (unlimited-on Buy) (unlimited-on Sell)
