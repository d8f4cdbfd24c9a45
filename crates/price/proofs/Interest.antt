-- Interest: 01 "The price", demand, supply and the executable quantity at a price. `book` is the list of orders taking part.
use Rattle.std.specs.Prelude.{ℕ, ◌≤◌, not, ◌⊎◌, List, T}
use Rattle.std.proofs.Common.{inl, inr, arith}
use Rattle.std.proofs.Math.Logic.{⊎_map}
use Rattle.lists.specs.Tests.{tests, and_mono}
use Rattle.lists.specs.Sums.{counted-mono, sum_mono}
use Rattle.terms.specs.Orders.{Resting}
use Rattle.terms.specs.declared.orders.{Side.Side, Side.TheVariants.Buy, Side.TheVariants.Sell, Limit.Limit, Limit.TheVariants.Unlimited, Limit.TheVariants.At}
use Rattle.queue.specs.Sides.{no_worse, allows}
use Rattle.queue.proofs.Sides.{no_worse-trans, no_worse-total}
use Rattle.queue.specs.Rank.{better_limit, on_side, ahead}
use Rattle.queue.proofs.Rank.{ahead-limit}
use Rattle.price.specs.Interest.{accepts, executable, interest}

-- what is executable is within what each side offers
pub executable-within : (s : Side) (p : ℕ) (book : List Resting) → executable book p ≤ interest s p book
executable-within Buy p book = omega arith
executable-within Sell p book = omega arith

-- a worse price is allowed by fewer limits
allows-mono : (s : Side) (p q : ℕ) (w : Limit) → T (no_worse s p q) → T (allows s q w) → T (allows s p w)
allows-mono s p q Unlimited h k = tt
allows-mono s p q (At l) h k = no_worse-trans s p q l.0 h k

-- of two limits of a side one is the tighter
pub tighter : (s : Side) (v w : Limit) → ((q : ℕ) → T (allows s q v) → T (allows s q w)) ⊎ ((q : ℕ) → T (allows s q w) → T (allows s q v))
tighter s Unlimited w = inr (λ q h. tt)
tighter s (At v) Unlimited = inl (λ q h. tt)
tighter s (At v) (At w) = ⊎_map (λ h q k. no_worse-trans s q v.0 w.0 k h) (λ h q k. no_worse-trans s q w.0 v.0 k h) (no_worse-total s v.0 w.0)

-- a limit that is not worse allows what the other does
allows-better : (s : Side) (p : ℕ) (v w : Limit) → T (not (better_limit s w v)) → T (allows s p w) → T (allows s p v)
allows-better s p Unlimited w h k = tt
allows-better s p (At v) Unlimited h k = absurd h
allows-better Buy p (At v) (At w) h k = omega tests
allows-better Sell p (At v) (At w) h k = omega tests

-- so those whose limits allow a price are a front part of the ranked queue
pub allows-ahead : (s : Side) (p : ℕ) (a b : Resting) → T (ahead s a b) → T (allows s p b.limit) → T (allows s p a.limit)
allows-ahead s p a b h k = allows-better s p a.limit b.limit (ahead-limit s a b h) k

-- at a price that is worse for a side, that side offers no more
pub interest-mono : (s : Side) (p q : ℕ) (book : List Resting) → T (no_worse s p q) → interest s q book ≤ interest s p book
unfolding interest
interest-mono s p q book h = sum_mono _ _ book (λ o m. counted-mono (accepts s q o) (accepts s p o) o.left (and_mono (on_side s o) _ _ (allows-mono s p q o.limit h)))
