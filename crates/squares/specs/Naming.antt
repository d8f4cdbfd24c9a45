-- The sides of trades under other names: places for numbers, and numbers for places.
use Prim.Native.Nat.{ℕ, zero, suc, ◌+◌, ◌*◌, ◌<◌, ◌≤◌}
use Rattle.std.specs.Prelude.{Bool, true, false, ◌≡◌, ltb, length, get_or, set, drop}
use Rattle.std.proofs.Math.Path.{refl, ap}
use Rattle.std.proofs.Common.{sym, ◌∙◌, arith, ltb-true, ltb-false, length-append, drop-cons}
use mathlib.Core.List.Memᴰ
use mathlib.Core.List.{List, [], ◌∷◌, ◌++◌, map}
use Rattle.std.proofs.Math.ListN.{get_or-append}
use Rattle.std.proofs.lemmas.List.{set_at, get_or_at}
use Rattle.std.proofs.Math.Seq.{append_snoc}
use Rattle.lists.specs.Sums.{◌∈◌}
use Rattle.terms.specs.Bounds.{places}
use Rattle.trades.specs.declared.{Trade.Trade}
use Rattle.trades.specs.Written.{quadruples, trades_read}

-- a trade with other names for its sides
abbrev pub named : (ℕ → ℕ) → Trade → Trade
named f t = record { buy = f t.buy; sell = f t.sell; quantity = t.quantity }

-- .. and the first k trades of a lent list
unfoldable pub renamed : (ℕ → ℕ) → ℕ → List ℕ → List ℕ
renamed f zero list = list
renamed f (suc k) [] = []
renamed f (suc k) (b ∷ []) = b ∷ []
renamed f (suc k) (b ∷ s ∷ []) = b ∷ s ∷ []
renamed f (suc k) (b ∷ s ∷ q ∷ []) = b ∷ s ∷ q ∷ []
renamed f (suc k) (b ∷ s ∷ q ∷ p ∷ list) = f b ∷ f s ∷ q ∷ p ∷ renamed f k list

-- the first n places, and the column that has at each place the place
unfoldable pub places_to : ℕ → List ℕ
places_to zero = []
places_to (suc n) = places_to n ++ (n ∷ [])

abbrev pub place_column : List ℕ
place_column = places_to places

-- trades written to a list and renamed there
pub renamed-written : (f : ℕ → ℕ) (price : ℕ) (ts : List Trade) (rest : List ℕ) → renamed f (length ts) (quadruples price ts ++ rest) ≡ quadruples price (map (named f) ts) ++ rest
unfolding renamed
renamed-written f price [] rest = refl
renamed-written f price (t ∷ ts) rest = ap (λ (l : List ℕ). f t.buy ∷ f t.sell ∷ t.quantity ∷ price ∷ l) (renamed-written f price ts rest)

-- ---- one after the other
four-more : (i : ℕ) → suc i * 4 ≡ suc (suc (suc (suc (i * 4))))
four-more i = omega arith

more : (i j : ℕ) → suc i * 4 + j ≡ suc (suc (suc (suc (i * 4 + j))))
more i j = omega arith

-- the trade at the front of those that are left
abbrev pub trade_at : List ℕ → ℕ → Trade
trade_at list at = record { buy = get_or list at 0; sell = get_or list (at + 1) 0; quantity = get_or list (at + 2) 0 }

pub trade-next : (k : ℕ) (list : List ℕ) → 4 * k ≤ length list → (i : ℕ) → i < k → drop i (trades_read k list) ≡ trade_at list (i * 4) ∷ drop (suc i) (trades_read k list)
trade-next zero list h i l = absurd (omega arith)
trade-next (suc k) [] h i l = absurd (omega arith)
trade-next (suc k) (b ∷ []) h i l = absurd (omega arith)
trade-next (suc k) (b ∷ s ∷ []) h i l = absurd (omega arith)
trade-next (suc k) (b ∷ s ∷ q ∷ []) h i l = absurd (omega arith)
trade-next (suc k) (b ∷ s ∷ q ∷ p ∷ list) h zero l = refl
trade-next (suc k) (b ∷ s ∷ q ∷ p ∷ list) h (suc i) l = rw (more i 1, more i 2, four-more i) (trade-next k list (omega arith) i (omega arith))

pub trade-listed : (k : ℕ) (list : List ℕ) → 4 * k ≤ length list → (i : ℕ) → i < k → trade_at list (i * 4) ∈ trades_read k list
trade-listed zero list h i l = absurd (omega arith)
trade-listed (suc k) [] h i l = absurd (omega arith)
trade-listed (suc k) (b ∷ []) h i l = absurd (omega arith)
trade-listed (suc k) (b ∷ s ∷ []) h i l = absurd (omega arith)
trade-listed (suc k) (b ∷ s ∷ q ∷ []) h i l = absurd (omega arith)
trade-listed (suc k) (b ∷ s ∷ q ∷ p ∷ list) h zero l = Memᴰ.head refl
trade-listed (suc k) (b ∷ s ∷ q ∷ p ∷ list) h (suc i) l = rw (more i 1, more i 2, four-more i) (Memᴰ.tail (trade-listed k list (omega arith) i (omega arith)))

pub trades-done : (k : ℕ) (list : List ℕ) (i : ℕ) → k ≤ i → drop i (trades_read k list) ≡ []
trades-done zero list zero h = refl
trades-done zero list (suc i) h = refl
trades-done (suc k) list zero h = absurd (omega arith)
trades-done (suc k) [] (suc i) h = refl
trades-done (suc k) (b ∷ []) (suc i) h = refl
trades-done (suc k) (b ∷ s ∷ []) (suc i) h = refl
trades-done (suc k) (b ∷ s ∷ q ∷ []) (suc i) h = refl
trades-done (suc k) (b ∷ s ∷ q ∷ p ∷ list) (suc i) h = trades-done k list i (omega arith)

module _ (f : ℕ → ℕ) where
  pub renamed-length : (i : ℕ) (list : List ℕ) → length (renamed f i list) ≡ length list
  unfolding renamed
  renamed-length zero list = refl
  renamed-length (suc i) [] = refl
  renamed-length (suc i) (b ∷ []) = refl
  renamed-length (suc i) (b ∷ s ∷ []) = refl
  renamed-length (suc i) (b ∷ s ∷ q ∷ []) = refl
  renamed-length (suc i) (b ∷ s ∷ q ∷ p ∷ list) = ap (λ (n : ℕ). suc (suc (suc (suc n)))) (renamed-length i list)

  -- behind those that are renamed the list is as it was
  pub renamed-behind : (i : ℕ) (list : List ℕ) (j : ℕ) → get_or (renamed f i list) (i * 4 + j) 0 ≡ get_or list (i * 4 + j) 0
  unfolding renamed
  renamed-behind zero list j = refl
  renamed-behind (suc i) [] j = refl
  renamed-behind (suc i) (b ∷ []) j = refl
  renamed-behind (suc i) (b ∷ s ∷ []) j = refl
  renamed-behind (suc i) (b ∷ s ∷ q ∷ []) j = refl
  renamed-behind (suc i) (b ∷ s ∷ q ∷ p ∷ list) j = rw (more i j) (renamed-behind i list j)

  pub renamed-front : (i : ℕ) (list : List ℕ) → get_or (renamed f i list) (i * 4) 0 ≡ get_or list (i * 4) 0
  renamed-front i list = let e : i * 4 ≡ i * 4 + 0 = omega arith in rw e (renamed-behind i list 0)

  pub renamed-next : (i : ℕ) (list : List ℕ) → i * 4 + 4 ≤ length list
      → set (set (renamed f i list) (i * 4) (f (get_or list (i * 4) 0))) (i * 4 + 1) (f (get_or list (i * 4 + 1) 0)) ≡ renamed f (suc i) list
  unfolding renamed
  renamed-next zero [] h = absurd (omega arith)
  renamed-next zero (b ∷ []) h = absurd (omega arith)
  renamed-next zero (b ∷ s ∷ []) h = absurd (omega arith)
  renamed-next zero (b ∷ s ∷ q ∷ []) h = absurd (omega arith)
  renamed-next zero (b ∷ s ∷ q ∷ p ∷ list) h = refl
  renamed-next (suc i) [] h = absurd (omega arith)
  renamed-next (suc i) (b ∷ []) h = absurd (omega arith)
  renamed-next (suc i) (b ∷ s ∷ []) h = absurd (omega arith)
  renamed-next (suc i) (b ∷ s ∷ q ∷ []) h = absurd (omega arith)
  renamed-next (suc i) (b ∷ s ∷ q ∷ p ∷ list) h = rw (more i 1, four-more i) (ap (λ (l : List ℕ). f b ∷ f s ∷ q ∷ p ∷ l) (renamed-next i list (omega arith)))

-- ---- place by place
pub places-length : (n : ℕ) → length (places_to n) ≡ n
unfolding places_to
places-length zero = refl
places-length (suc n) = omega (arith, length-append (places_to n) (n ∷ []), places-length n)

pub place-written : (n : ℕ) (old : List ℕ) → n < length old → set (places_to n ++ drop n old) n n ≡ places_to (n + 1) ++ drop (n + 1) old
unfolding places_to
place-written n old h =
    let e : n + 1 ≡ suc n = omega arith in
    rw (drop-cons old n 0 h, e) (set_at (places_to n) (get_or old n 0) (drop (suc n) old) n n (places-length n) ∙ sym (append_snoc (places_to n) n (drop (suc n) old)))

pub place_at : (n p : ℕ) → p < n → get_or (places_to n) p 0 ≡ p
unfolding places_to
place_at zero p h = absurd (omega arith)
place_at (suc n) p h = go (ltb p n) refl (place_at n p)
  where
    go : (b : Bool) → ltb p n ≡ b → (p < n → get_or (places_to n) p 0 ≡ p) → get_or (places_to n ++ (n ∷ [])) p 0 ≡ p
    go true e below = get_or-append (places_to n) (n ∷ []) 0 p (omega (arith, ltb-true p n e, places-length n)) ∙ below (ltb-true p n e)
    go false e below =
        let last : p ≡ n = omega (arith, ltb-false p n e) in
        rw last (get_or_at (places_to n) n [] 0 n (places-length n))
