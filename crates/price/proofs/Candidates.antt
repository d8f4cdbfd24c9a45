-- Candidates: 01 "The price", and why they suffice (B5).
use Rattle.std.specs.Prelude.{ℕ, ◌+◌, ◌≤◌, refl, List, [], ◌∷◌}
use Rattle.std.proofs.Common.{⊎_elim, T_not, arith}
use mathlib.Core.List.Memᴰ
use Rattle.lists.specs.Tests.{decided, and_both, and_intro}
use Rattle.lists.specs.Sums.{◌∈◌, counted, counted-mono}
use Rattle.lists.specs.Choice.{le-highest}
use Rattle.terms.specs.Orders.{Resting}
use Rattle.terms.specs.declared.orders.{Side.Side, Side.TheVariants.Buy, Side.TheVariants.Sell, Limit.Limit, Limit.TheVariants.Unlimited, Limit.TheVariants.At}
use Rattle.queue.proofs.Sides.{no_worse-refl}
use Rattle.queue.specs.Rank.{on_side}
use Rattle.price.specs.Interest.{accepts, interest, executable}
use Rattle.price.proofs.Interest.{tighter, interest-mono}
use Rattle.price.specs.Candidates.{Listed, Wall, add_limit, candidates, limits, most_executable}

listed_here : (w : Limit) (cs : List ℕ) → Listed (add_limit w cs) w
listed_here Unlimited cs = tt
listed_here (At l) cs = Memᴰ.head refl

listed-later : (v w : Limit) (cs : List ℕ) → Listed cs w → Listed (add_limit v cs) w
listed-later v Unlimited cs h = tt
listed-later Unlimited (At l) cs h = h
listed-later (At k) (At l) cs h = Memᴰ.tail h

wall-add : (s : Side) (p : ℕ) (cs : List ℕ) (f g : ℕ → ℕ) → Wall s p cs f → Wall s p cs g → Wall s p cs (λ q. f q + g q)
wall-add s p cs f g (v, lv, pv, hv) (w, lw, pw, hw) =
    ⊎_elim
    (λ h. (v, lv, pv, λ q k. omega (arith, hv q k, hw q (h q k))))
    (λ h. (w, lw, pw, λ q k. omega (arith, hw q k, hv q (h q k))))
    (tighter s v w)

-- of one order: its limit, where it accepts p; and no limit at all, where it does not
wall-order : (s : Side) (p : ℕ) (cs : List ℕ) (o : Resting) → Wall s p (add_limit o.limit cs) (λ q. counted (accepts s q o) o.left)
wall-order s p cs o =
    ⊎_elim
    (λ h. let (same, fits) = and_both (on_side s o) _ h in
    (o.limit, listed_here o.limit cs, fits, λ q k. counted-mono (accepts s p o) (accepts s q o) o.left (λ t. and_intro (on_side s o) _ same k)))
    (λ n. (Unlimited, tt, tt, λ q k. counted-mono (accepts s p o) (accepts s q o) o.left (λ t. absurd (T_not (accepts s p o) n t))))
    (decided (accepts s p o))

wall-weaken : (s : Side) (p : ℕ) (v : Limit) (cs : List ℕ) (f : ℕ → ℕ) → Wall s p cs f → Wall s p (add_limit v cs) f
wall-weaken s p v cs f (w, l, k, h) = (w, listed-later v w cs l, k, h)

wall : (s : Side) (p : ℕ) (book : List Resting) → Wall s p (limits book) (λ q. interest s q book)
unfolding interest
wall s p [] = (Unlimited, tt, tt, λ q k. omega arith)
wall s p (o ∷ os) =
    wall-add s p _ (λ q. counted (accepts s q o) o.left) (λ q. interest s q os) (wall-order s p (limits os) o) (wall-weaken s p o.limit (limits os) _ (wall s p os))

-- two walls: stand at one of them, or, where there is none, at the reference price
pub candidate-as-good : (reference : ℕ) (book : List Resting) (p : ℕ) → (c : ℕ) × (c ∈ candidates reference book) × (executable book p ≤ executable book c)
candidate-as-good reference book p = go (wall Buy p book) (wall Sell p book)
  where
    go : Wall Buy p (limits book) (λ q. interest Buy q book) → Wall Sell p (limits book) (λ q. interest Sell q book)
        → (c : ℕ) × (c ∈ candidates reference book) × (executable book p ≤ executable book c)
    go (At b, l, k, h) y = (b.0, Memᴰ.tail l, omega (arith, h b.0 (no_worse-refl Buy b.0), interest-mono Sell b.0 p book k))
    go (Unlimited, l, k, h) (At a, l', k', h') = (a.0, Memᴰ.tail l', omega (arith, h a.0 tt, h' a.0 (no_worse-refl Sell a.0)))
    go (Unlimited, l, k, h) (Unlimited, l', k', h') = (reference, Memᴰ.head refl, omega (arith, h reference tt, h' reference tt))

-- Candidates suffice: no price has a higher executable quantity than the best candidate (B5).
pub candidates-suffice : (reference : ℕ) (book : List Resting) (p : ℕ) → executable book p ≤ most_executable reference book
unfolding most_executable
candidates-suffice reference book p =
    let (c, listed, good) = candidate-as-good reference book p in
    omega (arith, le-highest (executable book) listed)
