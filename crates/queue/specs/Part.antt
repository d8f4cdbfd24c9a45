-- Who takes part: 01 "Who takes part, and at what rank", first two sentences.
use Rattle.std.specs.Prelude.{Bool, true, false, List}
use Rattle.lists.specs.Choice.{keep}
use Rattle.terms.specs.Orders.{Resting}
use Rattle.terms.specs.declared.orders.{Auction.Auction, Auction.TheVariants.Opening, Auction.TheVariants.Closing, Validity.Validity, Validity.TheVariants.AtOpening, Validity.TheVariants.AtClose, Validity.TheVariants.Day, Validity.TheVariants.LaterDay}

-- Opening: every resting order except validity 2. Closing: every resting order.
abbrev pub takes_part : Auction → Validity → Bool
takes_part Opening AtOpening = true
takes_part Opening AtClose = false
takes_part Opening Day = true
takes_part Opening LaterDay = true
takes_part Closing v = true

unfoldable pub taking_part : Auction → List Resting → List Resting
taking_part a resting = keep (λ o. takes_part a o.validity) resting
