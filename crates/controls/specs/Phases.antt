-- Phases: 01 "Phases", and the phase rules of "Refusals by number".
use Rattle.std.specs.Prelude.{Bool, true, false, not, ◌&&◌, ◌||◌}
use Rattle.terms.specs.declared.orders.{Auction.Auction, Auction.TheVariants.Opening, Auction.TheVariants.Closing, Validity.Validity}
use Rattle.controls.specs.declared.phases.Phase.{Phase}
use Rattle.controls.specs.declared.phases.Phase.TheVariants.{Fresh, PreOpening, Day, Closed}

abbrev pub has_started : Phase → Bool
has_started Fresh = false
has_started PreOpening = true
has_started Day = true
has_started Closed = true

abbrev pub is_pre_opening : Phase → Bool
is_pre_opening Fresh = false
is_pre_opening PreOpening = true
is_pre_opening Day = false
is_pre_opening Closed = false

abbrev pub is_day : Phase → Bool
is_day Fresh = false
is_day PreOpening = false
is_day Day = true
is_day Closed = false

abbrev pub is_at_opening : Validity → Bool
is_at_opening Validity.AtOpening = true
is_at_opening Validity.AtClose = false
is_at_opening Validity.Day = false
is_at_opening Validity.LaterDay = false

-- orders are refused when closed; validity 1 only in pre-opening
abbrev pub allows_order : Phase → Validity → Bool
allows_order phase validity = is_pre_opening phase || (is_day phase && not (is_at_opening validity))

-- an opening auction only in pre-opening, a closing auction only in day; the theoretical answer likewise
abbrev pub allows_auction : Phase → Auction → Bool
allows_auction phase Opening = is_pre_opening phase
allows_auction phase Closing = is_day phase

-- an opening auction leads to day; a closing auction leads to closed
abbrev pub phase_after : Auction → Phase
phase_after Opening = Day
phase_after Closing = Closed
