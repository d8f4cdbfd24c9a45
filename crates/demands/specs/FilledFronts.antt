-- Filled front (B11): the longest front part of the side's list whose sum is at most the total, for all entries, sums being those of unbounded numbers.
use Rattle.std.specs.Prelude.{ℕ, Bool, true, false, not, ◌||◌, ◌≡◌, List, T, ltb, length}
use Rattle.std.proofs.Common.{true≢false, sym, ◌∙◌}
use Rattle.terms.specs.Bounds.{places}
use Rattle.terms.proofs.Made.{side-number}
use Rattle.terms.specs.Orders.{is_side, side_from, side_number}
use Rattle.terms.specs.declared.orders.{Side.Side}
use Rattle.fills.specs.Front.{LongestFront}
use Rattle.fills.proofs.FrontLaws.{front-longest}
use Rattle.refusals.specs.Checks.{first_hit, answered-done}
use Rattle.refusals.specs.Exactly.{clear}
use Rattle.standings.specs.Queues.{front_checks, front_refused, front_done, list_of, filled_front}
use Rattle.demands.specs.Answers.{front-answer}

-- B11.
pub record FilledFront (buys sells : List ℕ) (side total : ℕ) : Type 0 where
  pub of-side : Side
  pub is-side : side_number of-side ≡ side
  pub longest : LongestFront total (list_of of-side buys sells) (filled_front buys sells side total).part

sided : (a b c : Bool) → (not a || b || c) ≡ false → T a
sided true b c e = tt
sided false b c e = absurd (true≢false e)

pub filled-front : (buys sells : List ℕ) (side total : ℕ) → (filled_front buys sells side total).answer ≡ 0 → FilledFront buys sells side total
unfolding filled_front
filled-front buys sells side total accepted =
    let checks = front_checks buys sells side in
    let h : 0 ≡ first_hit checks = sym accepted ∙ front-answer buys sells side total in
    record {
      of-side = side_from side;
      is-side = side-number side (sided (is_side side) (ltb places (length buys)) (ltb places (length sells)) (clear checks tt h 1));
      longest = rw (← answered-done checks front_refused (front_done (side_from side) buys sells total) h) (front-longest total (list_of (side_from side) buys sells));
    }
