-- The ranked queue and the filled front: what each call returns and leaves, refusals included.
use Rattle.std.specs.Prelude.{ℕ, List, [], ◌++◌, map, length, drop}
use Rattle.terms.specs.Orders.{side_from, auction_from}
use Rattle.terms.specs.declared.orders.{Side.Side, Side.TheVariants.Buy, Side.TheVariants.Sell, Auction.Auction}
use Rattle.queue.specs.Rank.{ranked}
use Rattle.fills.specs.Front.{front}
use Rattle.refusals.specs.Checks.{Check, answered}
use Rattle.refusals.specs.Rows.{ranked_rows, front_rows}
use Rattle.session.specs.declared.{Session.Session}
use Rattle.standings.specs.declared.{Queued.Queued}
use Rattle.session.specs.State.{part}

-- Ranked queue: 1, 2, 12.
abbrev pub ranked_checks : Session → ℕ → ℕ → ℕ → List Check
ranked_checks s side which size = ranked_rows s.phase side which size

-- the order numbers taking part, best first
abbrev pub ranked_numbers : Session → Side → Auction → List ℕ
ranked_numbers s side a = map (λ o. o.number) (ranked side (part s a))

-- what the call returns, and the lent list as it leaves it
pub record QueueLeaves : Type 0 where
  pub returned : Queued
  pub list : List ℕ

abbrev pub queue_leaves : Queued → List ℕ → QueueLeaves
queue_leaves returned list = record { returned = returned; list = list }

abbrev pub queue_refused : List ℕ → ℕ → QueueLeaves
queue_refused list n = record { returned = record { answer = n; count = 0 }; list = list }

abbrev pub queue_done : List ℕ → List ℕ → QueueLeaves
queue_done list numbers = record { returned = record { answer = 0; count = length numbers }; list = numbers ++ drop (length numbers) list }

unfoldable pub queued : Session → ℕ → ℕ → List ℕ → QueueLeaves
queued s side which list =
    answered (ranked_checks s side which (length list)) (queue_refused list) (queue_done list (ranked_numbers s (side_from side) (auction_from which)))

-- Filled front: 1, where either list is longer than the book, or for another side.
abbrev pub front_checks : List ℕ → List ℕ → ℕ → List Check
front_checks buys sells side = front_rows (length buys) (length sells) side

pub record FrontAnswer : Type 0 where
  pub answer : ℕ
  pub part : List ℕ

abbrev pub front_answered : ℕ → List ℕ → FrontAnswer
front_answered answer part = record { answer = answer; part = part }

abbrev pub list_of : Side → List ℕ → List ℕ → List ℕ
list_of Buy buys sells = buys
list_of Sell buys sells = sells

abbrev pub front_refused : ℕ → FrontAnswer
front_refused n = front_answered n []

abbrev pub front_done : Side → List ℕ → List ℕ → ℕ → FrontAnswer
front_done side buys sells total = front_answered 0 (front total (list_of side buys sells))

unfoldable pub filled_front : List ℕ → List ℕ → ℕ → ℕ → FrontAnswer
filled_front buys sells side total = answered (front_checks buys sells side) front_refused (front_done (side_from side) buys sells total)
