-- Whether two sides are one.
use Rattle.std.specs.Prelude.{Bool, true, false}
use Rattle.terms.specs.declared.orders.{Side.Side, Side.TheVariants.Buy, Side.TheVariants.Sell}

abbrev pub same_side : Side → Side → Bool
same_side Buy Buy = true
same_side Buy Sell = false
same_side Sell Buy = false
same_side Sell Sell = true
