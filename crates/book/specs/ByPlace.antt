-- What rests, by place: an order rests exactly where it stands at a taken place.
use Rattle.std.specs.Prelude.{ℕ, zero, suc, ◌+◌, ◌≤◌, ◌<◌, Bool, true, false, cond, ◌&&◌, ◌⊎◌, ◌≡◌, refl, [], ◌∷◌, T, ltb, length}
use Rattle.std.proofs.Common.{inl, inr, ⊎_elim, sym, subst, arith, length-append}
use mathlib.Core.List.Memᴰ
use Rattle.lists.specs.Tests.{tests, passes, same_test, decided, and_both, and_intro}
use Rattle.lists.specs.Sums.{◌∈◌}
use Rattle.lists.specs.Choice.{any, any-elim, any-intro}
use Rattle.terms.specs.Bounds.{places}
use Rattle.terms.specs.Orders.{Resting}
use Rattle.book.specs.declared.Book.{Book}
use Rattle.places.specs.Places.{is_taken}
use Rattle.book.specs.Columns.{order_at}
use Rattle.book.specs.Resting.{resting_at, resting_to, resting, first_or, first_of, rests_as, place_of}

-- the order stands at one of the first n places
pub record StandsAt (b : Book) (n : ℕ) (o : Resting) : Type 0 where
  pub place : ℕ
  pub below : place < n
  pub taken : is_taken b.taken place ≡ true
  pub is : o ≡ order_at b place

resting_at-elim : (b : Book) (place : ℕ) {o : Resting} → o ∈ resting_at b place → (is_taken b.taken place ≡ true) × (o ≡ order_at b place)
resting_at-elim b place {o} m = go (is_taken b.taken place) refl m
  where
    go : (t : Bool) → is_taken b.taken place ≡ t → o ∈ cond t (order_at b place ∷ []) [] → (is_taken b.taken place ≡ true) × (o ≡ order_at b place)
    go true e m = (e, Memᴰ.eq_of_singleton m)
    go false e m = absurd (Memᴰ.not-nil m)

pub resting-elim : (b : Book) (n : ℕ) {o : Resting} → o ∈ resting_to b n → StandsAt b n o
unfolding resting_to
resting-elim b zero m = absurd (Memᴰ.not-nil m)
resting-elim b (suc n) m =
    ⊎_elim
    (λ k. let s = resting-elim b n k in record { place = s.place; below = omega (arith, s.below); taken = s.taken; is = s.is })
    (λ k. let (e, i) = resting_at-elim b n k in record { place = n; below = omega arith; taken = e; is = i })
    (Memᴰ.append_cases (resting_to b n) m)

pub resting-intro : (b : Book) (n p : ℕ) → p < n → is_taken b.taken p ≡ true → order_at b p ∈ resting_to b n
unfolding resting_to
resting-intro b zero p h e = absurd (omega arith)
resting-intro b (suc n) p h e =
    ⊎_elim
    (λ k. Memᴰ.append_left (resting_at b n) (resting-intro b n p (omega tests) e))
    (λ k. let i : p ≡ n = omega tests in Memᴰ.append_right (resting_to b n) (rw i (rw (rw i at e) (Memᴰ.head refl))))
    (decided (ltb p n))

-- no more orders than places
pub resting-length : (b : Book) (n : ℕ) → length (resting_to b n) ≤ n
unfolding resting_to
resting-length b zero = omega arith
resting-length b (suc n) = rw length-append (omega (arith, resting-length b n, one (is_taken b.taken n)))
  where
    one : (t : Bool) → length (cond t (order_at b n ∷ []) []) ≤ 1
    one true = omega arith
    one false = omega arith

-- Looking from a place on: what is found passes, and nothing before it does.
record Found (f : Resting → Bool) (b : Book) (place n r : ℕ) : Type 0 where
  from : place ≤ r
  most : r ≤ place + n
  hit : r < place + n → T (is_taken b.taken r && f (order_at b r))
  missed : (p : ℕ) → place ≤ p → p < r → T (is_taken b.taken p && f (order_at b p)) → ⊥

found : (f : Resting → Bool) (b : Book) (place n : ℕ) → Found f b place n (first_of (rests_as f b) place n)
unfolding first_of
found f b place zero = record { from = omega arith; most = omega arith; hit = λ h. absurd (omega arith); missed = λ p h k t. omega arith }
found f b place (suc n) = go (is_taken b.taken place && f (order_at b place)) refl (found f b (suc place) n)
  where
    go : (t : Bool) → (is_taken b.taken place && f (order_at b place)) ≡ t → Found f b (suc place) n (first_of (rests_as f b) (suc place) n) → Found f b place (suc n) (first_or t place (first_of (rests_as f b) (suc place) n))
    go true e later = record { from = omega arith; most = omega arith; hit = λ h. rw e tt; missed = λ p h k t. omega arith }
    go false e later = record {
      from = omega (arith, later.from);
      most = omega (arith, later.most);
      hit = λ h. later.hit (omega arith);
      missed = λ p h k t. ⊎_elim (λ i. let here : T (is_taken b.taken place && f (order_at b place)) = subst (λ (x : ℕ). T (is_taken b.taken x && f (order_at b x))) (sym i) t in rw e at here) (λ l. later.missed p (omega tests) k t) (first p h);
    }
      where
        first : (p : ℕ) → place ≤ p → (place ≡ p) ⊎ (suc place ≤ p)
        first p h = ⊎_elim (λ l. inr (omega tests)) (λ l. inl (omega tests)) (decided (ltb place p))

pub place_found : (f : Resting → Bool) (b : Book) → place_of f b < places → (is_taken b.taken (place_of f b) ≡ true) × T (f (order_at b (place_of f b)))
place_found f b h =
    let (taken, passed) = and_both (is_taken b.taken (place_of f b)) _ ((found f b 0 places).hit (omega arith)) in
    (passes (is_taken b.taken (place_of f b)) taken, passed)

-- Some resting order passes exactly where a place is found.
pub any-resting : (f : Resting → Bool) (b : Book) → any f (resting b) ≡ ltb (place_of f b) places
any-resting f b = same_test (any f (resting b)) (ltb (place_of f b) places) there back
  where
    there : T (any f (resting b)) → T (ltb (place_of f b) places)
    there h =
        let (o, m, passed) = any-elim f (resting b) h in
        let s = resting-elim b places m in
        let hit : T (is_taken b.taken s.place && f (order_at b s.place)) = and_intro (is_taken b.taken s.place) _ (rw s.taken tt) (rw s.is at passed) in
        ⊎_elim (λ k. k) (λ k. absurd ((found f b 0 places).missed s.place (omega arith) (omega (tests, s.below)) hit)) (decided (ltb (place_of f b) places))

    back : T (ltb (place_of f b) places) → T (any f (resting b))
    back h =
        let below : place_of f b < places = omega tests in
        let (taken, passed) = place_found f b below in
        any-intro f (resting-intro b places (place_of f b) below taken) passed
