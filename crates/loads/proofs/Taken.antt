-- A start in range, and entries that no control stops.
use Rattle.std.specs.Prelude.{ℕ, zero, suc, ◌*◌, ◌≤◌, ◌≡◌, false, ◌&&◌, T, leb}
use Rattle.std.proofs.Common.{arith, le-leb}
use Rattle.std.proofs.lemmas.Bool.{lt-leb}
use Rattle.std.proofs.lemmas.Nat.{mul-le}
use Rattle.lists.specs.Tests.{and_both, passes, tests}
use Rattle.terms.specs.Bounds.{max_price}
use Rattle.terms.specs.Kinds.{is_member, is_quantity, is_price, is_threshold, is_multiple}
use Rattle.terms.specs.Orders.{is_side, side_from, at_price}
use Rattle.terms.specs.Parameters.{is_start, start_with}
use Rattle.terms.specs.Tables.{is_table}
use Rattle.terms.proofs.TableLaws.{one-row-step}
use Rattle.terms.specs.declared.kinds.{Member.Member}
use Rattle.terms.specs.declared.orders.{Side.Side, Side.TheVariants.Buy, Side.TheVariants.Sell, Validity.Validity, Validity.TheVariants.Day}
use Rattle.terms.specs.declared.parameters.{Start.Start}
use Rattle.controls.specs.declared.phases.{Phase.TheVariants.PreOpening}
use Rattle.refusals.specs.Checks.{first_hit}
use Rattle.session.specs.State.{fresh_session}
use Rattle.entries.specs.Entry.{started}
use Rattle.loads.specs.Loads.{step, factor, most, reference, can_ask, is_stopped, takes_order, takes_quote}

pub start-in-range : (price threshold : ℕ) → T (can_ask price threshold)
    → T (is_start (start_with (record { step = step; reference = price; factor = factor.0; threshold = threshold; most = most.0 })))
unfolding is_table
start-in-range price threshold h =
    let (of-price, fits) = and_both (is_price price && is_multiple step price) (is_threshold threshold) h in
    let (within, on) = and_both (is_price price) (is_multiple step price) of-price in
    let low : 1 ≤ price = omega (tests, (and_both (leb 1 price) (leb price max_price) within).0) in
    rw (one-row-step step price low, passes (is_price price) within, passes (is_multiple step price) on, passes (is_threshold threshold) fits) tt

pub pre-opening : (x : Start) → T (is_start x) → (started fresh_session x).session.phase ≡ PreOpening
unfolding started first_hit
pre-opening x h = rw (passes (is_start x) h)

not-stopped : (member : Member) (side : Side) (validity : Validity) (quantity limit : ℕ)
    → quantity ≤ 5_120 → 68_900 ≤ limit → limit ≤ 151_200 → T (is_multiple step limit)
    → is_stopped (record { member = member; side = side; validity = validity; quantity = record { 0 = quantity }; limit = at_price limit }) ≡ false
not-stopped member side validity quantity limit few low high on =
    rw (
      one-row-step step limit (omega arith),
      passes (is_multiple step limit) on,
      lt-leb (reference.0 * factor.0) limit (omega arith),
      lt-leb (limit * factor.0) reference.0 (omega arith),
      lt-leb most.0 (quantity * limit) (omega (arith, mul-le quantity limit 5_120 151_200 few high)),
      lt-leb most.0 (quantity * reference.0) (omega arith),
    )

pub order-taken : (member side quantity limit : ℕ) → T (is_member member) × T (is_side side) × (1 ≤ quantity) × (quantity ≤ 5_120)
    → (68_900 ≤ limit) × (limit ≤ 151_200) × T (is_multiple step limit)
    → T (takes_order (record { member = member; side = side; validity = 3; quantity = quantity; limit = limit }))
order-taken member side quantity zero (m, s, some, few) (low, high, on) = absurd (omega arith)
order-taken member side quantity (suc n) (m, s, some, few) (low, high, on) =
    rw (
      passes (is_member member) m,
      passes (is_side side) s,
      le-leb 1 quantity some,
      le-leb quantity 10_000_000 (omega arith),
      le-leb 1 (suc n) (omega arith),
      le-leb (suc n) 100_000_000 (omega arith),
      not-stopped (record { 0 = member }) (side_from side) Day quantity (suc n) few low high on,
    ) tt

pub quote-taken : (member quantity : ℕ) → T (is_member member) → T (is_quantity quantity) → quantity ≤ 5_120
    → T (takes_quote (record { member = member; bid = record { quantity = quantity; limit = 100_000 }; ask = record { quantity = quantity; limit = 100_100 } }))
quote-taken member quantity m some few =
    rw (
      passes (is_member member) m,
      passes (is_quantity quantity) some,
      not-stopped (record { 0 = member }) Buy Day quantity 100_000 few (omega arith) (omega arith) tt,
      not-stopped (record { 0 = member }) Sell Day quantity 100_100 few (omega arith) (omega arith) tt,
    ) tt
