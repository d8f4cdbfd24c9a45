-- Rank (B4): a strict total order on orders with distinct numbers; the ranked queue is in that order, holds exactly the orders of the
-- side that take part, and doesn't depend on places. The call writes its numbers from the front of the lent list.
use Rattle.std.specs.Prelude.{ℕ, ◌≤◌, ◌⊎◌, ◌↔◌, ◌≢◌, ◌≡◌, refl, List, map, T, length, take, drop}
use Rattle.std.proofs.Common.{sym, ap, subst, ◌∙◌, arith, ltb-false, length-append, length-drop, take_at, drop_at}
use Rattle.std.proofs.lemmas.List.{length-map}
use Rattle.lists.specs.Sums.{◌∈◌, counted, counted-le, sum, sum_mono, sum_ones}
use Rattle.lists.specs.Ranking.{Ranked}
use Rattle.terms.specs.Bounds.{places}
use Rattle.terms.specs.Orders.{Resting, auction_number, auction_from, side_number, side_from}
use Rattle.terms.specs.declared.orders.{Side.Side, Side.TheVariants.Buy, Side.TheVariants.Sell, Auction.Auction}
use Rattle.book.specs.Resting.{resting}
use Rattle.queue.specs.Part.{takes_part, taking_part}
use Rattle.queue.proofs.Part.{taking_part-distinct, taking_part-elim, taking_part-intro, taking_part-length}
use Rattle.queue.specs.Distinct.{Distinct}
use Rattle.queue.specs.Rank.{ahead, on_side, ranked}
use Rattle.queue.proofs.Rank.{ahead-irrefl, ahead-trans, ahead-total, ranked-in-order, ranked-elim, ranked-intro, ranked-sum, ranked-same}
use Rattle.session.specs.declared.{Session.Session}
use Rattle.refusals.specs.Checks.{first_hit, answered-done}
use Rattle.refusals.specs.Exactly.{clear}
use Rattle.session.specs.Sound.{Sound}
use Rattle.session.specs.State.{part}
use Rattle.standings.specs.Queues.{QueueLeaves, ranked_checks, ranked_numbers, queue_refused, queue_done, queued}
use Rattle.demands.specs.Answers.{ranked-answer}
use Rattle.demands.specs.Traded.{sound-ranged}
use Rattle.demands.specs.Outcomes.{auction-numbered}

pub record RankOrder (s : Side) : Type 0 where
  pub irreflexive : (a : Resting) → T (ahead s a a) → ⊥
  pub transitive : (a b c : Resting) → T (ahead s a b) → T (ahead s b c) → T (ahead s a c)
  pub total : (a b : Resting) → a.number ≢ b.number → T (ahead s a b) ⊎ T (ahead s b a)

-- B4, the order.
pub rank-order : (s : Side) → RankOrder s
rank-order s = record { irreflexive = ahead-irrefl s; transitive = ahead-trans s; total = ahead-total s }

pub record RankedQueue (s : Side) (a : Auction) (resting : List Resting) : Type 0 where
  pub in_order : Ranked (ahead s) (ranked s (taking_part a resting))
  pub exactly : (o : Resting) → (o ∈ ranked s (taking_part a resting)) ↔ ((o ∈ resting) × T (takes_part a o.validity) × T (on_side s o))
  -- each as often as it takes part
  pub as-often : (w : Resting → ℕ) → sum w (ranked s (taking_part a resting)) ≡ sum (λ o. counted (on_side s o) (w o)) (taking_part a resting)

-- B4, the queue.
pub ranked-queue : (s : Side) (a : Auction) (resting : List Resting) → Distinct resting → RankedQueue s a resting
ranked-queue s a resting d = record {
  in_order = ranked-in-order s (taking_part a resting) (taking_part-distinct a resting d);
  exactly = λ o. (
    (λ m. let (listed, side) = ranked-elim s (taking_part a resting) m in let (here, takes) = taking_part-elim a resting listed in (here, takes, side)),
    (λ (here, takes, side). ranked-intro s (taking_part-intro a here takes) side),
  );
  as-often = ranked-sum s (taking_part a resting);
}

-- B4, places: the same orders at other places have the same ranked queue.
pub ranked-by-no-place : (s : Side) (a : Auction) (resting moved : List Resting) → Distinct resting → Distinct moved → ((o : Resting) → (o ∈ resting) ↔ (o ∈ moved))
    → ranked s (taking_part a resting) ≡ ranked s (taking_part a moved)
ranked-by-no-place s a resting moved d e same =
    ranked-same s (taking_part a resting) (taking_part a moved) (taking_part-distinct a resting d) (taking_part-distinct a moved e)
    (λ o m. let (here, takes) = taking_part-elim a resting m in taking_part-intro a ((same o).0 here) takes)
    (λ o m. let (here, takes) = taking_part-elim a moved m in taking_part-intro a ((same o).1 here) takes)

-- B4, the call: the first entries of the lent list are the numbers of the ranked queue, best first, as many as answered, at most 512; further
-- entries stay.
pub record QueueListed (s : Session) (side : Side) (a : Auction) (list : List ℕ) (l : QueueLeaves) : Type 0 where
  pub queue : RankedQueue side a (resting s.book)
  pub best-first : take l.returned.count l.list ≡ map (λ o. o.number) (ranked side (part s a))
  pub count : l.returned.count ≡ length (ranked side (part s a))
  pub at_most : l.returned.count ≤ places
  pub further : drop l.returned.count l.list ≡ drop l.returned.count list
  pub as_long : length l.list ≡ length list

side-numbered : (side : Side) → side_from (side_number side) ≡ side
side-numbered Buy = refl
side-numbered Sell = refl

-- a queue is no longer than its book
queue-few : (side : Side) (book : List Resting) → length (ranked side book) ≤ length book
queue-few side book = omega (
  arith,
  sum_ones (ranked side book),
  ranked-sum side book (λ o. 1),
  sum_mono (λ o. counted (on_side side o) 1) (λ o. 1) book (λ o m. counted-le (on_side side o) 1),
  sum_ones book,
)

done-leaves : (s : Session) (side : Side) (a : Auction) (list : List ℕ) → 0 ≡ first_hit (ranked_checks s (side_number side) (auction_number a) (length list))
    → queue_done list (ranked_numbers s side a) ≡ queued s (side_number side) (auction_number a) list
unfolding queued
done-leaves s side a list h =
    ap (λ (x : Side). queue_done list (ranked_numbers s x a)) (sym (side-numbered side))
    ∙ ap (λ (b : Auction). queue_done list (ranked_numbers s (side_from (side_number side)) b)) (sym (auction-numbered a))
    ∙ answered-done (ranked_checks s (side_number side) (auction_number a) (length list)) (queue_refused list) (queue_done list (ranked_numbers s (side_from (side_number side)) (auction_from (auction_number a)))) h

pub queue-listed : (s : Session) → Sound s → (side : Side) (a : Auction) (list : List ℕ) → (queued s (side_number side) (auction_number a) list).returned.answer ≡ 0
    → QueueListed s side a list (queued s (side_number side) (auction_number a) list)
queue-listed s sound side a list accepted =
    let checks = ranked_checks s (side_number side) (auction_number a) (length list) in
    let h : 0 ≡ first_hit checks = sym accepted ∙ ranked-answer s (side_number side) (auction_number a) list in
    subst (QueueListed s side a list) (done-leaves s side a list h) (done (ltb-false (length list) places (clear checks tt h 12)))
  where
    numbers : List ℕ
    numbers = ranked_numbers s side a

    as_many : length numbers ≡ length (ranked side (part s a))
    as_many = length-map (ranked side (part s a)) (λ (o : Resting). o.number)

    few : length numbers ≤ places
    few = omega (arith, as_many, queue-few side (part s a), taking_part-length a (resting s.book), (sound-ranged s sound).few)

    done : places ≤ length list → QueueListed s side a list (queue_done list numbers)
    done room = record {
      queue = ranked-queue side a (resting s.book) (sound-ranged s sound).distinct;
      best-first = take_at numbers (drop (length numbers) list) (length numbers) refl;
      count = as_many;
      at_most = few;
      further = drop_at numbers (drop (length numbers) list) (length numbers) refl;
      as_long = length-append numbers (drop (length numbers) list) ∙ rw (length-drop (length numbers) list) (omega (arith, few, room));
    }
