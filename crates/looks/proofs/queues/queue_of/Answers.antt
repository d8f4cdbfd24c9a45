use Rattle.std.proofs.Common.{ℕ, ◌≤◌, List, sym, subst, arith, length, drop, length-append, length-take-le}
use Rattle.terms.specs.Orders.{side_from, auction_from}
use Rattle.refusals.specs.Checks.{answered-cases}
use Rattle.session.specs.declared.Session.{Session}
use Rattle.standings.specs.Queues.{QueueLeaves, ranked_checks, ranked_numbers, queue_refused, queue_done, queued}
use Rattle.looks.proofs.queues.queue_of.Goals as goal

-- the numbers stand in the list as it is left
queue-within : (s : Session) (side which : ℕ) (list : List ℕ) → (queued s side which list).returned.count ≤ length (queued s side which list).list
unfolding queued
queue-within s side which list =
    let numbers = ranked_numbers s (side_from side) (auction_from which) in
    answered-cases (ranked_checks s side which (length list)) (queue_refused list) (queue_done list numbers) (λ (l : QueueLeaves). l.returned.count ≤ length l.list) (λ n h e. omega arith)
    (λ e. omega (arith, length-append numbers (drop (length numbers) list)))

pub returns : goal.returns
returns c =
    let within = subst (λ (l : QueueLeaves). l.returned.count ≤ length l.list) (sym c.ranked.ensures) (queue-within _ _ _ _) in
    (within, sym (length-take-le _ _ within))
