-- The ranked queue and the filled front from what their code learns on the way, for the promises of `ranked` and `filled_front`.
use Rattle.std.specs.Prelude.{ℕ, ◌≤◌, true, false, not, ◌&&◌, ◌||◌, ◌≢◌, ◌≡◌, List, [], map, ◌++◌, ltb, length, take, drop, Result, Ok, Err}
use Rattle.std.proofs.Math.Path.{sym, ap}
use Rattle.std.proofs.Common.{◌∙◌, arith, ltb-false}
use Rattle.std.proofs.lemmas.Simd.{map-map}
use Rattle.std.proofs.Math.ListN.{length-map}
use Rattle.terms.specs.Bounds.{places}
use Rattle.terms.specs.Orders.{Resting, is_side, is_auction, side_from, auction_from}
use Rattle.terms.specs.declared.orders.{Side.Side, Auction.Auction}
use Rattle.book.specs.Columns.{order_at}
use Rattle.queue.specs.RankNumbers.{place_of_rank, along}
use Rattle.queue.specs.Rank.{ranked}
use Rattle.fills.specs.Front.{front}
use Rattle.fills.proofs.FrontLaws.{front-longest}
use Rattle.refusals.specs.Checks.{Check, first_hit, answered-refused, answered-done, hits, passes, passes-last}
use Rattle.refusals.specs.Rows.{ranked_later}
use Rattle.refusals.specs.Exactly.{clear}
use Rattle.session.specs.declared.{Session.Session}
use Rattle.session.specs.State.{part}
use Rattle.standings.specs.Queues.{QueueLeaves, ranked_checks, queue_leaves, queue_refused, queue_done, ranked_numbers, queued, front_checks, front_answered, front_refused, front_done, list_of, filled_front}

-- what the call returns and leaves where so many are listed, or where it is refused with a number
abbrev pub queue_by : Result ℕ ℕ → List ℕ → QueueLeaves
queue_by (Ok n) list = queue_leaves (record { answer = 0; count = n }) list
queue_by (Err n) list = queue_refused list n

module _ (s : Session) (side which : ℕ) (list : List ℕ) where
  abbrev checks : List Check
  checks = ranked_checks s side which (length list)

  pub queue-out-of-range : is_side side && is_auction which ≡ false → queue_refused list 1 ≡ queued s side which list
  unfolding queued
  queue-out-of-range h = answered-refused checks (queue_refused list) _ (hits 1 _ (rw h)) (λ z. omega arith)

  module _ {on : Side} {a : Auction} (sided : (is_side side ≡ true) × (on ≡ side_from side)) (called : (is_auction which ≡ true) × (a ≡ auction_from which))
      {n : ℕ} (hit : n ≡ first_hit (ranked_later s.phase (length list))) where
    queue-hit : n ≡ first_hit checks
    queue-hit = passes 1 _ (rw (sided.0, called.0)) hit

    pub queue-turned-down : n ≢ 0 → queue_refused list n ≡ queued s side which list
    unfolding queued
    queue-turned-down h = answered-refused checks (queue_refused list) _ queue-hit h

    module _ (z : n ≡ 0) where
      pub queue-room : places ≤ length list
      queue-room = ltb-false (length list) places (clear checks tt (sym z ∙ queue-hit) 12)

      pub queue-listed : (ranks : List ℕ) → map (λ r. order_at s.book (place_of_rank r)) ranks ≡ ranked on (part s a)
          → queue_leaves (record { answer = 0; count = length ranks }) (along s.book.number ranks ++ drop (length ranks) list) ≡ queued s side which list
      unfolding queued
      queue-listed ranks e =
          rw (← length-map ranks (λ r. (order_at s.book (place_of_rank r)).number), numbers)
          (answered-done checks (queue_refused list) (queue_done list (ranked_numbers s (side_from side) (auction_from which))) (sym z ∙ queue-hit))
        where
          numbers : along s.book.number ranks ≡ ranked_numbers s (side_from side) (auction_from which)
          numbers =
              sym (map-map (λ (o : Resting). o.number) (λ r. order_at s.book (place_of_rank r)) ranks)
              ∙ ap (map (λ (o : Resting). o.number)) (rw (sided.1, called.1) at e)

module _ (buys sells : List ℕ) (side total : ℕ) where
  abbrev fronts : List Check
  fronts = front_checks buys sells side

  pub front-turned-down : not (is_side side) || ltb places (length buys) || ltb places (length sells) ≡ true → front_answered 1 [] ≡ filled_front buys sells side total
  unfolding filled_front
  front-turned-down h = answered-refused fronts front_refused _ (hits 1 _ h) (λ z. omega arith)

  pub front-found : {on : Side} → (is_side side ≡ true) × (on ≡ side_from side) → ltb places (length buys) || ltb places (length sells) ≡ false
      → {k : ℕ} → k ≡ length (front total (list_of on buys sells)) → front_answered 0 (take k (list_of on buys sells)) ≡ filled_front buys sells side total
  unfolding filled_front
  front-found {on} sided fit e =
      rw (e, ← (front-longest total (list_of on buys sells)).is_front, sided.1)
      (answered-done fronts front_refused (front_done (side_from side) buys sells total) (passes-last 1 (rw sided.0 fit)))
