-- The chain: 01 "The price", steps 1 to 4, and why it leaves one price (B6).
use Rattle.std.specs.Prelude.{ℕ, ◌≤◌, ◌<◌, Bool, true, false, cond, ◌⊎◌, ◌↔◌, List, [], ◌∷◌, T, leb, ltb}
use Rattle.std.proofs.Math.Option.{none, some}
use Rattle.std.proofs.Math.Logic.{⊎_elim, ⊎_map}
use Rattle.std.proofs.Math.Path.{◌≡◌, refl}
use mathlib.Core.List.Memᴰ
use Rattle.std.proofs.Common.{ltb→lt, arith}
use Rattle.lists.specs.Tests.{tests, decided}
use Rattle.lists.specs.Sums.{◌∈◌, apart, apart-le, le-apart}
use Rattle.lists.specs.Choice.{all, leaders, smallest, largest, leaders-elim, leaders-found, smallest-elim, smallest-intro, largest-elim, largest-intro, smallest-some, largest-some, highest-at, le-highest}
use Rattle.terms.specs.Orders.{Resting}
use Rattle.terms.specs.declared.orders.{Side.TheVariants.Buy, Side.TheVariants.Sell}
use Rattle.price.specs.Interest.{interest, executable, difference}
use Rattle.price.proofs.Interest.{interest-mono}
use Rattle.price.specs.Candidates.{candidates, limits, most_executable}
use Rattle.price.proofs.Candidates.{candidate-as-good}
use Rattle.price.specs.Chain.{auction_price, demand_exceeds, kept, preferred, settled, supply_exceeds, tradable}

tradable-elim : (book : List Resting) (ps : List ℕ) (p : ℕ) → tradable book ps ≡ some p → (p ∈ ps) × (0 < executable book p)
tradable-elim book [] p e = let z : ◌≡◌ {A = ℕ} 0 1 = cc in absurd (omega arith)
tradable-elim book (q ∷ qs) p e = go (ltb 0 (executable book q)) (ltb→lt 0 (executable book q)) e
  where
    go : (b : Bool) → (T b → 0 < executable book q) → cond b (some q) none ≡ some p → (p ∈ (q ∷ qs)) × (0 < executable book p)
    go true h e = let pq : p ≡ q = cc in (Memᴰ.head pq, rw pq (h tt))
    go false h e = let z : ◌≡◌ {A = ℕ} 0 1 = cc in absurd (omega arith)

tradable-intro : (book : List Resting) (ps : List ℕ) (p : ℕ) → p ∈ ps → 0 < executable book p → ((a : ℕ) → a ∈ ps → p ≡ a) → tradable book ps ≡ some p
tradable-intro book [] p m h one = absurd (Memᴰ.not-nil m)
tradable-intro book (q ∷ qs) p m h one = rw (← one q (Memᴰ.head refl)) (go (ltb 0 (executable book p)) (omega tests))
  where
    go : (b : Bool) → T b → cond b (some p) none ≡ some p
    go true k = refl
    go false k = absurd k

tradable-none : (book : List Resting) (ps : List ℕ) → ((p : ℕ) → executable book p ≡ 0) → tradable book ps ≡ none
tradable-none book [] h = refl
tradable-none book (q ∷ qs) h = rw (h q)

preferred-total : (x y : Bool) (reference p q : ℕ) → T (preferred x y reference p q) ⊎ T (preferred x y reference q p)
preferred-total true y reference p q = ⊎_map (λ h. h) (λ h. omega tests) (decided (preferred true y reference p q))
preferred-total false true reference p q = ⊎_map (λ h. h) (λ h. omega tests) (decided (preferred false true reference p q))
preferred-total false false reference p q = ⊎_map (λ h. h) (λ h. omega tests) (decided (preferred false false reference p q))

preferred-trans : (x y : Bool) (reference p q r : ℕ) → T (preferred x y reference p q) → T (preferred x y reference q r) → T (preferred x y reference p r)
preferred-trans true y reference p q r h k = omega tests
preferred-trans false true reference p q r h k = omega tests
preferred-trans false false reference p q r h k = omega tests

-- What is kept has no gaps: a candidate between two that are kept is kept.
module _ (reference : ℕ) (book : List Resting) where
  kept-elim : {a : ℕ} → a ∈ kept reference book → (a ∈ candidates reference book) × ((y : ℕ) → y ∈ candidates reference book → executable book y ≤ executable book a)
      × ((y : ℕ) → y ∈ largest (executable book) (candidates reference book) → difference book a ≤ difference book y)
  kept-elim m =
      let (m1, least) = smallest-elim (difference book) (largest (executable book) (candidates reference book)) m in
      let (m0, most) = largest-elim (executable book) (candidates reference book) m1 in
      (m0, most, least)

  kept-between : {a b c : ℕ} → a ∈ kept reference book → b ∈ kept reference book → c ∈ candidates reference book → a ≤ c → c ≤ b → c ∈ kept reference book
  kept-between {a} {b} {c} ma mb mc ac cb =
      let (a0, a-most, a-least) = kept-elim ma in
      let (b0, b-most, b-least) = kept-elim mb in
      let da : interest Buy c book ≤ interest Buy a book = interest-mono Buy a c book (omega tests) in
      let db : interest Buy b book ≤ interest Buy c book = interest-mono Buy c b book (omega tests) in
      let sa : interest Sell a book ≤ interest Sell c book = interest-mono Sell c a book (omega tests) in
      let sb : interest Sell c book ≤ interest Sell b book = interest-mono Sell b c book (omega tests) in
      smallest-intro (difference book)
      (largest-intro (executable book) mc (λ y n. omega (arith, a-most y n, b-most y n)))
      (λ y n. apart-le _ _ _
      (omega (arith, a-least y n, le-apart (interest Buy a book) (interest Sell a book)))
      (omega (arith, b-least y n, le-apart (interest Buy b book) (interest Sell b book))))

  -- There is never a second equally near (B6).
  pub nearest-one : {a b : ℕ} → a ∈ smallest (apart reference) (kept reference book) → b ∈ smallest (apart reference) (kept reference book) → a ≡ b
  unfolding apart
  nearest-one {a} {b} ma mb =
      let (a0, a-near) = smallest-elim (apart reference) (kept reference book) ma in
      let (b0, b-near) = smallest-elim (apart reference) (kept reference book) mb in
      let rc : reference ∈ candidates reference book = Memᴰ.head refl in
      ⊎_elim
      (λ h. ⊎_elim
      (λ k. omega (tests, a-near b b0, b-near a a0))
      (λ k. let m = kept-between a0 b0 rc (omega tests) (omega tests) in omega (tests, a-near reference m, b-near reference m))
      (decided (leb b reference)))
      (λ h. ⊎_elim
      (λ k. let m = kept-between b0 a0 rc (omega tests) (omega tests) in omega (tests, a-near reference m, b-near reference m))
      (λ k. omega (tests, a-near b b0, b-near a a0))
      (decided (leb b reference)))
      (decided (leb a reference))

  -- the chain leaves one price ..
  settled-one : {a b : ℕ} → a ∈ settled reference book (kept reference book) → b ∈ settled reference book (kept reference book) → a ≡ b
  settled-one {a} {b} = go (all (demand_exceeds book) (kept reference book)) (all (supply_exceeds book) (kept reference book))
    where
      go : (x y : Bool) → a ∈ leaders (preferred x y reference) (kept reference book) → b ∈ leaders (preferred x y reference) (kept reference book) → a ≡ b
      go true y m n =
          let (a0, a_first) = leaders-elim (preferred true y reference) (kept reference book) m in
          let (b0, b-first) = leaders-elim (preferred true y reference) (kept reference book) n in
          omega (tests, a_first b b0, b-first a a0)
      go false true m n =
          let (a0, a_first) = leaders-elim (preferred false true reference) (kept reference book) m in
          let (b0, b-first) = leaders-elim (preferred false true reference) (kept reference book) n in
          omega (tests, a_first b b0, b-first a a0)
      go false false m n = nearest-one m n

  -- .. of those that are kept
  settled-kept : {a : ℕ} → a ∈ settled reference book (kept reference book) → a ∈ kept reference book
  settled-kept m = (leaders-elim (preferred (all (demand_exceeds book) (kept reference book)) (all (supply_exceeds book) (kept reference book)) reference) (kept reference book) m).0

  settled-some : (c : ℕ) × (c ∈ settled reference book (kept reference book))
  settled-some =
      let (c, m) = largest-some (executable book) (candidates reference book) (Memᴰ.head refl) in
      let (d, n) = smallest-some (difference book) (largest (executable book) (candidates reference book)) m in
      leaders-found (preferred demand_at_all supply_at_all reference) (preferred-total demand_at_all supply_at_all reference) (preferred-trans demand_at_all supply_at_all reference) (kept reference book) n
    where
      demand_at_all : Bool
      demand_at_all = all (demand_exceeds book) (kept reference book)

      supply_at_all : Bool
      supply_at_all = all (supply_exceeds book) (kept reference book)

  -- it executes as much as any price at all, listed or not
  settled-best : {a : ℕ} → a ∈ settled reference book (kept reference book) → (p : ℕ) → executable book p ≤ executable book a
  settled-best m p =
      let (c, listed, good) = candidate-as-good reference book p in
      let (m0, most, least) = kept-elim (settled-kept m) in
      omega (arith, most c listed)

  -- the price is the one that the chain leaves, if anything can be executed there
  pub price-some : (p : ℕ) → (auction_price reference book ≡ some p) ↔ ((p ∈ settled reference book (kept reference book)) × (0 < executable book p))
  unfolding auction_price
  price-some p = (tradable-elim book (settled reference book (kept reference book)) p, λ (m, h). tradable-intro book (settled reference book (kept reference book)) p m h (λ a n. settled-one m n))

  -- there is none exactly where nothing can be executed at any price
  pub price-none : (auction_price reference book ≡ none) ↔ ((p : ℕ) → executable book p ≡ 0)
  unfolding auction_price
  price-none = (nothing, tradable-none book (settled reference book (kept reference book)))
    where
      nothing : auction_price reference book ≡ none → (p : ℕ) → executable book p ≡ 0
      nothing e p =
          let (c, m) = settled-some in
          ⊎_elim
          (λ h. let f = (price-some c).1 (m, omega tests) in let z : ◌≡◌ {A = ℕ} 0 1 = cc in omega arith)
          (λ h. omega (tests, settled-best m p))
          (decided (ltb 0 (executable book c)))

  -- the price is a candidate
  pub price-candidate : (p : ℕ) → auction_price reference book ≡ some p → p ∈ candidates reference book
  price-candidate p e = (kept-elim (settled-kept ((price-some p).0 e).0)).0

  -- no price at all would execute more
  pub price-best : (p : ℕ) → auction_price reference book ≡ some p → (q : ℕ) → executable book q ≤ executable book p
  price-best p e q = settled-best ((price-some p).0 e).0 q

  -- what is executed at the price is the highest executable quantity ..
  pub price-most : (p : ℕ) → auction_price reference book ≡ some p → executable book p ≡ most_executable reference book
  unfolding most_executable
  price-most p e =
      let (c, listed, same) = highest-at (executable book) reference (limits book) in
      omega (arith, price-best p e c, le-highest (executable book) (price-candidate p e))

  -- .. which is 0 where there is no price
  pub no-price-most : auction_price reference book ≡ none → most_executable reference book ≡ 0
  unfolding most_executable
  no-price-most e =
      let (c, listed, same) = highest-at (executable book) reference (limits book) in
      omega (arith, price-none.0 e c)
