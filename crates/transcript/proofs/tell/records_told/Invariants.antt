-- Invariant: what is told so far leads on to the whole telling (`Underway`). Each record brings the place further. The tables that hint at quotes are trusted in one thing: an empty entry is true.
use Prim.Native.Nat.{◌-◌}
use mathlib.Core.Path.{◌≡◌}
use lib.ListN.{length}
use Rattle.terms.specs.Bounds.{trade_list_length}
use Rattle.transcript.specs.InPlace.{HintedIn}
use Rattle.transcript.specs.Underway.{Underway}
use Rattle.transcript.proofs.tell.records_told.Given as goal

abbrev pub invariant-loop-record : goal.invariant-loop-record
invariant-loop-record l = Underway l.ended l.bytes l.initial.out l.initial.present l.answered l.present l.count l.place l.at l.out × (length l.list ≡ trade_list_length) × (length l.list ≡ length l.initial.list) × HintedIn l.present l.bids 1 × HintedIn l.present l.asks 2

abbrev pub decreases-loop-record : goal.decreases-loop-record
decreases-loop-record l = length l.bytes - l.place
