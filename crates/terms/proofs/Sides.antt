-- Whether two sides are one.
use Rattle.std.specs.Prelude.{◌≡◌, refl, T, eqb}
use Rattle.terms.specs.Orders.{side_number}
use Rattle.terms.specs.declared.orders.{Side.Side, Side.TheVariants.Buy, Side.TheVariants.Sell}
use Rattle.terms.specs.Sides.{same_side}

pub same_side-eq : (s t : Side) → T (same_side s t) → s ≡ t
same_side-eq Buy Buy h = refl
same_side-eq Buy Sell h = absurd h
same_side-eq Sell Buy h = absurd h
same_side-eq Sell Sell h = refl

pub same_side-refl : (s : Side) → T (same_side s s)
same_side-refl Buy = tt
same_side-refl Sell = tt

-- .. by their numbers
pub same_side-number : (s t : Side) → eqb (side_number s) (side_number t) ≡ same_side s t
same_side-number Buy Buy = refl
same_side-number Buy Sell = refl
same_side-number Sell Buy = refl
same_side-number Sell Sell = refl
