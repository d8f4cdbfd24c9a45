-- Ranks as numbers compare as orders do: by limit, then by number.
use Rattle.std.specs.Prelude.{ℕ, zero, suc, ◌+◌, ◌-◌, ◌*◌, ◌<◌, not, ◌&&◌, ◌||◌, ◌≢◌, ◌≡◌, refl, T, leb, ltb}
use Rattle.std.proofs.Common.{⊎_elim, sym, ◌∙◌, arith, ne_eqb, lt-ltb, le-ltb, le-leb}
use Rattle.std.proofs.lemmas.Bool.{lt-leb}
use Rattle.std.proofs.Math.Dec.{not_T}
use Rattle.lists.specs.Tests.{tests, decided, same_test, and_both, and_intro, or_cases, or_left, or_right}
use Rattle.terms.specs.Bounds.{places}
use Rattle.terms.specs.Orders.{limit_from}
use Rattle.terms.specs.declared.orders.{Side.Side, Side.TheVariants.Buy, Side.TheVariants.Sell}
use Rattle.queue.specs.Sides.{allows, is_unlimited}
use Rattle.queue.specs.Rank.{better_limit}
use Rattle.queue.specs.RankNumbers.{limit_room, number_room, key_room, price_key, rank_of, rank_bound, place_of_rank}

-- the key of a buy's limit
buy-key : (l : ℕ) → price_key Buy (suc l) ≡ limit_room - suc l
buy-key l = rw (ne_eqb (suc l) 0 (λ e. omega arith))

-- the better limit has the lower key
key-better : (s : Side) (l m : ℕ) → l < limit_room → m < limit_room → better_limit s (limit_from l) (limit_from m) ≡ ltb (price_key s l) (price_key s m)
key-better Buy zero zero h k = refl
key-better Sell zero zero h k = refl
key-better Buy zero (suc m) h k = rw (buy-key m) (sym (lt-ltb 0 (limit_room - suc m) (omega arith)))
key-better Sell zero (suc m) h k = sym (lt-ltb 0 (suc m) (omega arith))
key-better Buy (suc l) zero h k = rw (buy-key l) (sym (le-ltb (limit_room - suc l) 0 (omega arith)))
key-better Sell (suc l) zero h k = sym (le-ltb (suc l) 0 (omega arith))
key-better Buy (suc l) (suc m) h k = rw (buy-key l, buy-key m) (same_test (ltb (suc m) (suc l)) (ltb (limit_room - suc l) (limit_room - suc m)) (λ t. omega tests) (λ t. omega tests))
key-better Sell (suc l) (suc m) h k = refl

-- the lower rank: by key, and by number where neither key is lower
number-better : (k j n m p q : ℕ) → n < number_room → m < number_room → n ≢ m → p < places → q < places
    → leb (k * key_room + n * places + p) (j * key_room + m * places + q) ≡ (ltb k j || (not (ltb j k) && ltb n m))
number-better k j n m p q hn hm d hp hq = same_test (leb (k * key_room + n * places + p) (j * key_room + m * places + q)) (ltb k j || (not (ltb j k) && ltb n m)) to back
  where
    to : T (leb (k * key_room + n * places + p) (j * key_room + m * places + q)) → T (ltb k j || (not (ltb j k) && ltb n m))
    to t =
        ⊎_elim
        (λ kj. or_left (ltb k j) (not (ltb j k) && ltb n m) kj)
        (λ jk. or_right (ltb k j) (not (ltb j k) && ltb n m) (and_intro (not (ltb j k)) (ltb n m) (not_T (ltb j k) (λ u. omega tests)) (omega tests)))
        (decided (ltb k j))

    back : T (ltb k j || (not (ltb j k) && ltb n m)) → T (leb (k * key_room + n * places + p) (j * key_room + m * places + q))
    back t =
        ⊎_elim
        (λ kj. omega tests)
        (λ both. let (jk, nm) = and_both (not (ltb j k)) (ltb n m) both in omega tests)
        (or_cases (ltb k j) (not (ltb j k) && ltb n m) t)

-- a key is within another where its ranks are below the bound
key-within : (k j n p : ℕ) → n < number_room → p < places → ltb (k * key_room + n * places + p) ((j + 1) * key_room) ≡ leb k j
key-within k j n p hn hp = same_test (ltb (k * key_room + n * places + p) ((j + 1) * key_room)) (leb k j) (λ t. omega tests) (λ t. omega tests)

key-allows : (s : Side) (l price : ℕ) → l < limit_room → 0 < price → price < limit_room → leb (price_key s l) (price_key s price) ≡ allows s price (limit_from l)
key-allows s l zero h low high = absurd (omega arith)
key-allows Buy zero (suc p) h low high = rw (buy-key p) (le-leb 0 (limit_room - suc p) (omega arith))
key-allows Sell zero (suc p) h low high = le-leb 0 (suc p) (omega arith)
key-allows Buy (suc l) (suc p) h low high = rw (buy-key l, buy-key p) (same_test (leb (limit_room - suc l) (limit_room - suc p)) (leb (suc p) (suc l)) (λ t. omega tests) (λ t. omega tests))
key-allows Sell (suc l) (suc p) h low high = refl

key-unlimited : (s : Side) (l : ℕ) → l < limit_room → leb (price_key s l) (price_key s 0) ≡ is_unlimited (limit_from l)
key-unlimited Buy zero h = refl
key-unlimited Sell zero h = refl
key-unlimited Buy (suc l) h = rw (buy-key l) (lt-leb (limit_room - suc l) 0 (omega arith))
key-unlimited Sell (suc l) h = lt-leb (suc l) 0 (omega arith)

-- What the rank of a limit, a number and a place says of them, all within their bounds.
module _ (s : Side) (l n p : ℕ) (here : p < places) where
  pub rank-place : place_of_rank (rank_of s l n p) ≡ p
  rank-place = of (price_key s l)
    where
      of : (k : ℕ) → place_of_rank (k * key_room + n * places + p) ≡ p
      of k = omega arith

  module _ (small : l < limit_room) (given : n < number_room) where
    -- it is the lower one of two where its order is ahead
    pub rank-ahead : (m o q : ℕ) → q < places → m < limit_room → o < number_room → n ≢ o
        → leb (rank_of s l n p) (rank_of s m o q) ≡ (better_limit s (limit_from l) (limit_from m) || (not (better_limit s (limit_from m) (limit_from l)) && ltb n o))
    rank-ahead m o q there little known apart =
        number-better (price_key s l) (price_key s m) n o p q given known apart here there
        ∙ rw (key-better s l m small little, key-better s m l little small)

    -- it is below the bound of a price where its limit allows the price
    pub rank-allows : (price : ℕ) → 0 < price → price < limit_room → ltb (rank_of s l n p) (rank_bound s price) ≡ allows s price (limit_from l)
    rank-allows price low high = key-within (price_key s l) (price_key s price) n p given here ∙ key-allows s l price small low high

    -- .. and below that of no price where it is unlimited
    pub rank-unlimited : ltb (rank_of s l n p) (rank_bound s 0) ≡ is_unlimited (limit_from l)
    rank-unlimited = key-within (price_key s l) (price_key s 0) n p given here ∙ key-unlimited s l small
