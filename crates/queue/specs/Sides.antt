-- The two sides, by one order on prices each; every law is said and proved once for both.
use Rattle.std.specs.Prelude.{ℕ, Bool, true, false, leb}
use Rattle.terms.specs.declared.orders.{Side.Side, Side.TheVariants.Buy, Side.TheVariants.Sell, Limit.Limit, Limit.TheVariants.Unlimited, Limit.TheVariants.At}

-- `no_worse s p q`: for side s the price p is as good as q, or better (a buyer likes it low, a seller high)
abbrev pub no_worse : Side → ℕ → ℕ → Bool
no_worse Buy p q = leb p q
no_worse Sell p q = leb q p

-- a limit allows the price p: it is unlimited, or (buys) at least p, (sells) at most p
abbrev pub allows : Side → ℕ → Limit → Bool
allows s p Unlimited = true
allows s p (At l) = no_worse s p l.0

abbrev pub is_unlimited : Limit → Bool
is_unlimited Unlimited = true
is_unlimited (At p) = false
