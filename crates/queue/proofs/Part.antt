-- Who takes part: 01 "Who takes part, and at what rank", first two sentences.
use Rattle.std.specs.Prelude.{◌≤◌, List, T, length}
use Rattle.lists.specs.Sums.{◌∈◌}
use Rattle.lists.specs.Choice.{keep-elim, keep-intro, keep-length}
use Rattle.terms.specs.Orders.{Resting}
use Rattle.terms.specs.declared.orders.{Auction.Auction}
use Rattle.queue.specs.Distinct.{Distinct}
use Rattle.queue.proofs.Distinct.{distinct-keep}
use Rattle.queue.specs.Part.{takes_part, taking_part}

pub taking_part-elim : (a : Auction) (resting : List Resting) {o : Resting} → o ∈ taking_part a resting → (o ∈ resting) × T (takes_part a o.validity)
unfolding taking_part
taking_part-elim a resting m = keep-elim (λ o. takes_part a o.validity) resting m

pub taking_part-distinct : (a : Auction) (resting : List Resting) → Distinct resting → Distinct (taking_part a resting)
unfolding taking_part
taking_part-distinct a resting d = distinct-keep (λ o. takes_part a o.validity) resting d

pub taking_part-length : (a : Auction) (resting : List Resting) → length (taking_part a resting) ≤ length resting
unfolding taking_part
taking_part-length a resting = keep-length (λ o. takes_part a o.validity) resting

pub taking_part-intro : (a : Auction) {resting : List Resting} {o : Resting} → o ∈ resting → T (takes_part a o.validity) → o ∈ taking_part a resting
unfolding taking_part
taking_part-intro a m h = keep-intro (λ o. takes_part a o.validity) m h
