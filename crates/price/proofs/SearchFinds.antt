-- The search finds what the chain leaves: the candidates weighed one after the other come to what the chain keeps of all of them.
use Rattle.std.specs.Prelude.{ℕ, ◌≤◌, ◌<◌, min, max, Bool, cond, ◌&&◌, ◌||◌, ◌⊎◌, ◌≢◌, ◌≡◌, leb, ltb}
use Rattle.std.proofs.Math.Bool.{true, false}
use Rattle.std.proofs.Math.Option.{some}
use Rattle.std.proofs.Common.{inl, inr, sym, ap, ◌∙◌, ltb-true, ltb-false, le-ltb, eqb-true, arith}
use Rattle.std.proofs.Math.Logic.{⊎_elim, ⊎_map}
use Rattle.std.proofs.Math.Path.{refl}
use mathlib.Core.List.Memᴰ
use mathlib.Core.List.{List, [], ◌∷◌}
use Rattle.std.proofs.Math.Dec.{eqb}
use Rattle.std.proofs.lemmas.Bool.{eqb-false}
use Rattle.lists.specs.Tests.{tests, decided, same_test}
use Rattle.lists.specs.Sums.{◌∈◌, apart}
use Rattle.lists.specs.Choice.{all, all-elim, all-intro, leaders, leaders-elim, leaders-intro, smallest-elim, smallest-intro, largest, largest-elim, largest-intro, le-highest, highest-at}
use Rattle.terms.specs.Orders.{Resting}
use Rattle.terms.specs.declared.orders.{Side.TheVariants.Buy, Side.TheVariants.Sell}
use Rattle.price.specs.Interest.{demand, supply, executable, difference}
use Rattle.price.proofs.Interest.{interest-mono}
use Rattle.price.specs.Candidates.{candidates, limits, most_executable}
use Rattle.price.specs.Chain.{kept, settled, preferred, demand_exceeds, supply_exceeds, auction_price}
use Rattle.price.proofs.Chain.{price-some}
use Rattle.price.specs.Search.{first_weighed, joined, weighed, weigh_all, found_in, searched_in}
use Rattle.price.specs.declared.weigh.{Weighed.Weighed}
use Rattle.price.specs.declared.search.{Found.Found}
use Rattle.price.specs.SearchFinds.{stepped}

stepped-elim : (P : Weighed → Type 0) (reference price most least : ℕ) (w : Weighed)
    → ((w.most < most) ⊎ ((most ≡ w.most) × (least < w.least)) → P (first_weighed price most least))
    → (most ≡ w.most → least ≡ w.least → P (joined reference price w))
    → ((most < w.most) ⊎ ((most ≡ w.most) × (w.least < least)) → P w)
    → P (stepped reference price most least w)
stepped-elim P reference price most least w better level worse = go (ltb w.most most) (eqb most w.most) (ltb least w.least) (eqb least w.least) refl refl refl refl
  where
    go : (a b c d : Bool) → ltb w.most most ≡ a → eqb most w.most ≡ b → ltb least w.least ≡ c → eqb least w.least ≡ d
        → P (cond (a || (b && c)) (first_weighed price most least) (cond (b && d) (joined reference price w) w))
    go true b c d ea eb ec ed = better (inl (ltb-true _ _ ea))
    go false true true d ea eb ec ed = better (inr (eqb-true _ _ eb, ltb-true _ _ ec))
    go false true false true ea eb ec ed = level (eqb-true _ _ eb) (eqb-true _ _ ed)
    go false true false false ea eb ec ed = worse (inr (eqb-true _ _ eb, omega (arith, ltb-false least w.least ec, eqb-false least w.least ed)))
    go false false c d ea eb ec ed = worse (inl (omega (arith, ltb-false w.most most ea, eqb-false most w.most eb)))

-- Candidates with executable quantities f and differences g, of which cs are all.
module _ (f g : ℕ → ℕ) (reference : ℕ) (cs : List ℕ) where
  -- one of them, level with w
  record Level (w : Weighed) (c : ℕ) : Type 0 where
    listed : c ∈ cs
    as-much : f c ≡ w.most
    as-near : g c ≡ w.least

  record Ends (w : Weighed) : Type 0 where
    at_high : Level w w.high
    at_low : Level w w.low
    at-near : Level w w.near

  -- w has taken c in: c is not better, and where it is level it is within the ends
  record Weighs (w : Weighed) (c : ℕ) : Type 0 where
    no_more : f c ≤ w.most
    no_less : f c ≡ w.most → w.least ≤ g c
    within : f c ≡ w.most → g c ≡ w.least → (w.low ≤ c) × (c ≤ w.high) × (apart reference w.near ≤ apart reference c)

  near-cases : (P : ℕ → Type 0) (p n : ℕ) → (apart reference p < apart reference n → P p) → (apart reference n ≤ apart reference p → P n)
      → P (cond (ltb (apart reference p) (apart reference n)) p n)
  near-cases P p n nearer not-nearer = go (ltb (apart reference p) (apart reference n)) refl
    where
      go : (b : Bool) → ltb (apart reference p) (apart reference n) ≡ b → P (cond b p n)
      go true e = nearer (ltb-true _ _ e)
      go false e = not-nearer (ltb-false _ _ e)

  max_cases : (P : ℕ → Type 0) (m n : ℕ) → P m → P n → P (max m n)
  max_cases P m n pm pn = ⊎_elim (λ h. let e : max m n ≡ n = omega tests in rw e pn) (λ h. let e : max m n ≡ m = omega tests in rw e pm) (decided (leb m n))

  min_cases : (P : ℕ → Type 0) (m n : ℕ) → P m → P n → P (min m n)
  min_cases P m n pm pn = ⊎_elim (λ h. let e : min m n ≡ m = omega tests in rw e pm) (λ h. let e : min m n ≡ n = omega tests in rw e pn) (decided (leb m n))

  first_ends : (p : ℕ) → p ∈ cs → Ends (first_weighed p (f p) (g p))
  first_ends p m = let l : Level (first_weighed p (f p) (g p)) p = record { listed = m; as-much = refl; as-near = refl } in record { at_high = l; at_low = l; at-near = l }

  first-takes : (p : ℕ) → Weighs (first_weighed p (f p) (g p)) p
  first-takes p = record { no_more = omega arith; no_less = λ x. omega arith; within = λ x y. (omega arith, omega arith, omega arith) }

  step-ends : (p : ℕ) (w : Weighed) → p ∈ cs → Ends w → Ends (stepped reference p (f p) (g p) w)
  step-ends p w m ends = stepped-elim Ends reference p (f p) (g p) w
      (λ h. first_ends p m)
      (λ i k. let l : Level (joined reference p w) p = record { listed = m; as-much = i; as-near = k } in record {
        at_high = max_cases (Level (joined reference p w)) w.high p (still ends.at_high) l;
        at_low = min_cases (Level (joined reference p w)) w.low p (still ends.at_low) l;
        at-near = near-cases (Level (joined reference p w)) p w.near (λ h. l) (λ h. still ends.at-near);
      })
      (λ h. ends)
    where
      still : {c : ℕ} → Level w c → Level (joined reference p w) c
      still l = record { listed = l.listed; as-much = l.as-much; as-near = l.as-near }

  -- one that is worse than w
  worse-taken : (w : Weighed) (c : ℕ) → (f c < w.most) ⊎ ((f c ≡ w.most) × (w.least < g c)) → Weighs w c
  worse-taken w c (inl k) = record { no_more = omega arith; no_less = λ x. absurd (omega arith); within = λ x y. absurd (omega arith) }
  worse-taken w c (inr (i, k)) = record { no_more = omega arith; no_less = λ x. omega arith; within = λ x y. absurd (omega arith) }

  step_keeps : (p : ℕ) (w : Weighed) (c : ℕ) → Weighs w c → Weighs (stepped reference p (f p) (g p) w) c
  step_keeps p w c h = stepped-elim (λ v. Weighs v c) reference p (f p) (g p) w
      (λ k. worse-taken (first_weighed p (f p) (g p)) c (worse k))
      (λ i k. record {
        no_more = h.no_more;
        no_less = h.no_less;
        within = λ x y. let (l, u, n) = h.within x y in (
          omega arith,
          omega arith,
          near-cases (λ m. apart reference m ≤ apart reference c) p w.near (λ z. omega arith) (λ z. n),
        );
      })
      (λ k. h)
    where
      worse : (w.most < f p) ⊎ ((f p ≡ w.most) × (g p < w.least)) → (f c < f p) ⊎ ((f c ≡ f p) × (g p < g c))
      worse (inl k) = inl (omega (arith, h.no_more))
      worse (inr (i, k)) =
          ⊎_elim
          (λ t. inl (omega tests))
          (λ t. let e : f c ≡ w.most = omega (tests, h.no_more) in inr (e ∙ sym i, omega (arith, h.no_less e)))
          (decided (ltb (f c) w.most))

  step-takes : (p : ℕ) (w : Weighed) → Weighs (stepped reference p (f p) (g p) w) p
  step-takes p w = stepped-elim (λ v. Weighs v p) reference p (f p) (g p) w
      (λ h. first-takes p)
      (λ i k. record {
        no_more = omega arith;
        no_less = λ x. omega arith;
        within = λ x y. (
          omega arith,
          omega arith,
          near-cases (λ m. apart reference m ≤ apart reference p) p w.near (λ z. omega arith) (λ z. z),
        );
      })
      (worse-taken w p)

  -- what is taken in changes nothing when it comes again
  taken-stays : (p : ℕ) (w : Weighed) → Weighs w p → stepped reference p (f p) (g p) w ≡ w
  taken-stays p w h = stepped-elim (λ v. v ≡ w) reference p (f p) (g p) w
      (λ k. absurd (⊎_elim (λ m. omega (arith, h.no_more)) (λ m. omega (arith, h.no_less m.0)) k))
      (λ i k. let (l, u, n) = h.within i k in
      let top : max w.high p ≡ w.high = omega arith in
      let bottom : min w.low p ≡ w.low = omega arith in
      rw (top, bottom, le-ltb (apart reference p) (apart reference w.near) n))
      (λ k. refl)

-- A candidate weighed twice is as one weighed once.
pub weighed-twice : (reference price demand supply : ℕ) (w : Weighed) → weighed reference price demand supply (weighed reference price demand supply w) ≡ weighed reference price demand supply w
unfolding weighed
weighed-twice reference price demand supply w =
    taken-stays (λ p. min demand supply) (λ p. apart demand supply) reference [] price _ (step-takes (λ p. min demand supply) (λ p. apart demand supply) reference [] price w)

pinned : (m n : ℕ) → m ≤ n → n ≤ m → m ≡ n
pinned m n h k = omega arith

-- The candidates of a book, with demand and supply as the search finds them at each: the reference price and the limits of both sides, 0 for unlimited.
module _ (reference : ℕ) (book : List Resting) (demand_at supply_at : ℕ → ℕ) (bids asks : List ℕ)
    (same : (p : ℕ) → p ∈ candidates reference book → (demand_at p ≡ demand book p) × (supply_at p ≡ supply book p))
    (bids-known : (p : ℕ) → p ∈ bids → (p ≡ 0) ⊎ (p ∈ limits book))
    (asks-known : (p : ℕ) → p ∈ asks → (p ≡ 0) ⊎ (p ∈ limits book))
    (all_in : (p : ℕ) → p ∈ limits book → (p ∈ bids) ⊎ (p ∈ asks))
    (priced : 0 ∈ limits book → ⊥) where
  abbrev LevelIn : Weighed → ℕ → Type 0
  LevelIn w c = Level (executable book) (difference book) reference (candidates reference book) w c

  abbrev EndsIn : Weighed → Type 0
  EndsIn w = Ends (executable book) (difference book) reference (candidates reference book) w

  abbrev WeighsIn : Weighed → ℕ → Type 0
  WeighsIn w c = Weighs (executable book) (difference book) reference (candidates reference book) w c

  abbrev Known : List ℕ → Type 0
  Known ls = (l : ℕ) → l ∈ ls → (l ≡ 0) ⊎ (l ∈ candidates reference book)

  abbrev one_more : ℕ → Weighed → Weighed
  one_more l w = stepped reference l (executable book l) (difference book l) w

  next-elim : (P : Weighed → Type 0) (l : ℕ) (w : Weighed) → (l ≡ 0) ⊎ (l ∈ candidates reference book) → (l ≡ 0 → P w) → (l ∈ candidates reference book → P (one_more l w))
      → P (cond (eqb l 0) w (weighed reference l (demand_at l) (supply_at l) w))
  unfolding weighed
  next-elim P l w known unlimited limited = go (eqb l 0) refl
    where
      go : (b : Bool) → eqb l 0 ≡ b → P (cond b w (weighed reference l (demand_at l) (supply_at l) w))
      go true e = unlimited (eqb-true l 0 e)
      go false e = ⊎_elim (λ z. absurd (eqb-false l 0 e z)) (λ m. rw ((same l m).0, (same l m).1) (limited m)) known

  -- what every step keeps holds at the end ..
  all_keep : (P : Weighed → Type 0) → ((l : ℕ) (w : Weighed) → l ∈ candidates reference book → P w → P (one_more l w))
      → (ls : List ℕ) (w : Weighed) → Known ls → P w → P (weigh_all reference demand_at supply_at ls w)
  unfolding weigh_all
  all_keep P step [] w known h = h
  all_keep P step (l ∷ ls) w known h =
      all_keep P step ls _ (λ x m. known x (Memᴰ.tail m)) (next-elim P l w (known l (Memᴰ.head refl)) (λ z. h) (λ m. step l w m h))

  all-ends : (ls : List ℕ) (w : Weighed) → Known ls → EndsIn w → EndsIn (weigh_all reference demand_at supply_at ls w)
  all-ends = all_keep EndsIn (λ l w m. step-ends (executable book) (difference book) reference (candidates reference book) l w m)

  all-keeps : (c : ℕ) (ls : List ℕ) (w : Weighed) → Known ls → WeighsIn w c → WeighsIn (weigh_all reference demand_at supply_at ls w) c
  all-keeps c = all_keep (λ w. WeighsIn w c) (λ l w m. step_keeps (executable book) (difference book) reference (candidates reference book) l w c)

  -- .. and every limit is taken in
  all-takes : (c : ℕ) (ls : List ℕ) (w : Weighed) → Known ls → c ≢ 0 → c ∈ ls → WeighsIn (weigh_all reference demand_at supply_at ls w) c
  unfolding weigh_all
  all-takes c [] w known limited m = absurd (Memᴰ.not-nil m)
  all-takes c (l ∷ ls) w known limited (Memᴰ.tail m) = all-takes c ls _ (λ x n. known x (Memᴰ.tail n)) limited m
  all-takes c (l ∷ ls) w known limited (Memᴰ.head e) = rw e (all-keeps l ls _ (λ x n. known x (Memᴰ.tail n))
      (next-elim (λ v. WeighsIn v l) l w (known l (Memᴰ.head refl)) (λ z. absurd (limited (e ∙ z))) (λ m. step-takes (executable book) (difference book) reference (candidates reference book) l w)))

  -- where all candidates are taken in, those level with w are the ones that the chain keeps ..
  module _ (w : Weighed) (ends : EndsIn w) (every : (c : ℕ) → c ∈ candidates reference book → WeighsIn w c) where
    level-kept : {c : ℕ} → LevelIn w c → c ∈ kept reference book
    level-kept {c} l = smallest-intro (difference book)
        (largest-intro (executable book) l.listed (λ y n. rw l.as-much (every y n).no_more))
        (λ y n. let (m, most) = largest-elim (executable book) (candidates reference book) n in
        rw l.as-near ((every y m).no_less (pinned _ _ (every y m).no_more (rw l.as-much at (most c l.listed)))))

    kept-level : {c : ℕ} → c ∈ kept reference book → LevelIn w c
    kept-level {c} m =
        let (m1, least) = smallest-elim (difference book) (largest (executable book) (candidates reference book)) m in
        let (m0, most) = largest-elim (executable book) (candidates reference book) m1 in
        let (h1, more) = smallest-elim (difference book) (largest (executable book) (candidates reference book)) (level-kept ends.at_high) in
        let much : executable book c ≡ w.most = pinned _ _ (every c m0).no_more (rw ends.at_high.as-much at (most w.high ends.at_high.listed)) in
        record {
          listed = m0;
          as-much = much;
          as-near = pinned _ _ (rw ends.at_high.as-near at (least w.high h1)) ((every c m0).no_less much);
        }

    -- .. demand exceeds supply at all of these where it does at the highest, and supply demand where it does at the lowest ..
    demand-at-all : all (demand_exceeds book) (kept reference book) ≡ demand_exceeds book w.high
    demand-at-all = same_test _ _
        (λ t. all-elim (demand_exceeds book) (level-kept ends.at_high) t)
        (λ t. all-intro (demand_exceeds book) (kept reference book) (λ c m.
        let l = kept-level m in
        let b = ((every c l.listed).within l.as-much l.as-near).1 in
        omega (tests, interest-mono Buy c w.high book (omega tests), interest-mono Sell w.high c book (omega tests))))

    supply-at-all : all (supply_exceeds book) (kept reference book) ≡ supply_exceeds book w.low
    supply-at-all = same_test _ _
        (λ t. all-elim (supply_exceeds book) (level-kept ends.at_low) t)
        (λ t. all-intro (supply_exceeds book) (kept reference book) (λ c m.
        let l = kept-level m in
        let b = ((every c l.listed).within l.as-much l.as-near).0 in
        omega (tests, interest-mono Buy w.low c book (omega tests), interest-mono Sell c w.low book (omega tests))))

    -- .. so that the price found is the one that the chain leaves
    found-settled : (found_in demand_at supply_at w).price ∈ settled reference book (kept reference book)
    found-settled =
        rw ((same w.high ends.at_high.listed).0, (same w.high ends.at_high.listed).1, (same w.low ends.at_low.listed).0, (same w.low ends.at_low.listed).1, demand-at-all, supply-at-all)
        (go (demand_exceeds book w.high) (supply_exceeds book w.low))
      where
        go : (a b : Bool) → cond a w.high (cond b w.low w.near) ∈ leaders (preferred a b reference) (kept reference book)
        go true b = leaders-intro (preferred true b reference) (level-kept ends.at_high) (λ c m. let l = kept-level m in omega (tests, ((every c l.listed).within l.as-much l.as-near).1))
        go false true = leaders-intro (preferred false true reference) (level-kept ends.at_low) (λ c m. let l = kept-level m in omega (tests, ((every c l.listed).within l.as-much l.as-near).0))
        go false false = leaders-intro (preferred false false reference) (level-kept ends.at-near) (λ c m. let l = kept-level m in omega (tests, ((every c l.listed).within l.as-much l.as-near).2))

    found-most : w.most ≡ most_executable reference book
    unfolding most_executable
    found-most =
        let (c, listed, top) = highest-at (executable book) reference (limits book) in
        pinned _ _
        (rw (← ends.at_high.as-much) (le-highest (executable book) ends.at_high.listed))
        (rw (← top) (every c listed).no_more)

    found-price : 0 < most_executable reference book → auction_price reference book ≡ some (found_in demand_at supply_at w).price
    found-price h =
        (price-some reference book (found_in demand_at supply_at w).price).1
        (found-settled, rw ((kept-level (leaders-elim (preferred (all (demand_exceeds book) (kept reference book)) (all (supply_exceeds book) (kept reference book)) reference) (kept reference book) found-settled).0).as-much, found-most) h)

  alone : Weighed
  alone = first_weighed reference (executable book reference) (difference book reference)

  after-bids : Weighed
  after-bids = weigh_all reference demand_at supply_at bids alone

  after-all : Weighed
  after-all = weigh_all reference demand_at supply_at asks after-bids

  known : (ls : List ℕ) → ((p : ℕ) → p ∈ ls → (p ≡ 0) ⊎ (p ∈ limits book)) → Known ls
  known ls h p m = ⊎_map (λ z. z) (λ n. Memᴰ.tail n) (h p m)

  ends : EndsIn after-all
  unfolding alone after-bids after-all
  ends = all-ends asks after-bids (known asks asks-known) (all-ends bids alone (known bids bids-known)
      (first_ends (executable book) (difference book) reference (candidates reference book) reference (Memᴰ.head refl)))

  every : (c : ℕ) → c ∈ candidates reference book → WeighsIn after-all c
  unfolding alone after-bids after-all
  every c (Memᴰ.head e) = rw e (all-keeps reference asks after-bids (known asks asks-known) (all-keeps reference bids alone (known bids bids-known)
      (first-takes (executable book) (difference book) reference (candidates reference book) reference)))
  every c (Memᴰ.tail m) = ⊎_elim
      (λ n. all-keeps c asks after-bids (known asks asks-known) (all-takes c bids alone (known bids bids-known) limited n))
      (λ n. all-takes c asks after-bids (known asks asks-known) limited n)
      (all_in c m)
    where
      limited : c ≢ 0
      limited e = priced (rw e at m)

  searched-is : searched_in reference demand_at supply_at bids asks ≡ found_in demand_at supply_at after-all
  unfolding alone after-bids after-all
  searched-is = rw ((same reference (Memᴰ.head refl)).0, (same reference (Memᴰ.head refl)).1) refl

  -- The search finds the highest executable quantity and, where anything can be executed, the price.
  pub searched-most : (searched_in reference demand_at supply_at bids asks).most ≡ most_executable reference book
  searched-most = ap (λ (x : Found). x.most) searched-is ∙ found-most after-all ends every

  pub searched-price : 0 < most_executable reference book → auction_price reference book ≡ some (searched_in reference demand_at supply_at bids asks).price
  searched-price h = found-price after-all ends every h ∙ ap (λ (x : Found). some x.price) (sym searched-is)
