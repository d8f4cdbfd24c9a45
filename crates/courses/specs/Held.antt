-- What may hold an auction back: 01 "Outcomes", opening: outcome 3, and outcome 4 where "no delay has been given yet"; "Closing: outcome 1 or 2
-- only. Unlimited orders that stay unfilled don't prevent it".
use Rattle.std.specs.Prelude.{Bool, true, false, not}
use Rattle.terms.specs.declared.orders.{Auction.Auction, Auction.TheVariants.Opening, Auction.TheVariants.Closing}

abbrev pub preventable : Auction → Bool
preventable Opening = true
preventable Closing = false

abbrev pub delayable : Auction → Bool → Bool
delayable Opening delayed = not delayed
delayable Closing delayed = false
