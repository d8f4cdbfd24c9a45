-- The two sides, by one order on prices each; every law is said and proved once for both.
use Rattle.std.specs.Prelude.{ℕ, ◌⊎◌, T}
use Rattle.lists.specs.Tests.{tests, leb-total}
use Rattle.terms.specs.declared.orders.{Side.Side, Side.TheVariants.Buy, Side.TheVariants.Sell}
use Rattle.queue.specs.Sides.{no_worse}

pub no_worse-refl : (s : Side) (p : ℕ) → T (no_worse s p p)
no_worse-refl Buy p = omega tests
no_worse-refl Sell p = omega tests

pub no_worse-trans : (s : Side) (p q r : ℕ) → T (no_worse s p q) → T (no_worse s q r) → T (no_worse s p r)
no_worse-trans Buy p q r h k = omega tests
no_worse-trans Sell p q r h k = omega tests

pub no_worse-total : (s : Side) (p q : ℕ) → T (no_worse s p q) ⊎ T (no_worse s q p)
no_worse-total Buy p q = leb-total p q
no_worse-total Sell p q = leb-total q p
