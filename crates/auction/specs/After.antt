-- After an auction: 01 "Outcomes", what is left of the orders and which rests are deleted.
use Rattle.std.specs.Prelude.{◌-◌, Bool, true, cond, ◌||◌, List}
use Rattle.std.proofs.Math.Bool.{false}
use Rattle.std.proofs.Math.Option.{Option, none, some}
use Rattle.std.proofs.Math.Dec.{eqb}
use Rattle.terms.specs.Orders.{Resting, with_open}
use Rattle.terms.specs.declared.orders.{Auction.Auction, Auction.TheVariants.Opening, Auction.TheVariants.Closing, Validity.Validity, Validity.TheVariants.AtOpening, Validity.TheVariants.AtClose, Validity.TheVariants.Day, Validity.TheVariants.LaterDay}
use Rattle.trades.specs.declared.{Trade.Trade}
use Rattle.trades.specs.Trades.{traded}

-- of an order, what it had less what the trades gave it
abbrev pub remaining : List Trade → Resting → Resting
remaining trades o = with_open (o.left - traded o.side o.number trades) o

-- after opening, rests with validity 1 are deleted; after closing, rests with validity 1, 2 and 3
abbrev pub ends : Auction → Validity → Bool
ends Opening AtOpening = true
ends Opening AtClose = false
ends Opening Day = false
ends Opening LaterDay = false
ends Closing AtOpening = true
ends Closing AtClose = true
ends Closing Day = true
ends Closing LaterDay = false

-- gone where nothing remains or its validity ends
abbrev pub leaves : Auction → Resting → Bool
leaves a o = eqb o.left 0 || ends a o.validity

-- what rests of an order, or nothing
unfoldable pub rest_of : Auction → List Trade → Resting → Option Resting
rest_of a trades o = cond (leaves a (remaining trades o)) none (some (remaining trades o))
