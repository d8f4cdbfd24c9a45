use Prim.Native.Nat.{◌≤◌}
use mathlib.Core.Bool.{true}
use Rattle.std.proofs.lemmas.Result.{err_from_is_err_and}
use Rattle.refusals.specs.Numbers.{refusal-number-above}
use mathlib.Core.Path.{◌≡◌, refl, sym, ap, ◌∙◌}
use mathlib.Core.List.{map}
use native.Mathlib.Omega.{arith}
use lib.ListN.{length, take}
use lib.Seq.{length-take-le}
use borrow.Author.Rules.{rules}
use Rattle.terms.specs.Bounds.{places}
use Rattle.terms.proofs.Made.{side-good, side-refused, auction-good, auction-refused}
use Rattle.terms.specs.Orders.{is_side, side_from, is_auction, auction_from}
use Rattle.book.specs.Columns.{order_at}
use Rattle.queue.specs.RankNumbers.{place_of_rank}
use Rattle.queue.proofs.Placing.{ranks-fit}
use Rattle.queue.proofs.Queue.{ranked-by-ranks}
use Rattle.session.specs.Sound.{legal_price, number-room}
use Rattle.standings.specs.QueueCalls.{queue-out-of-range, queue-turned-down, queue-room, queue-listed}
use Rattle.standings.proofs.listed.Goals as goal
use Rattle.standings.proofs.listed.Goals.{After-ranked-count, In_ok-side, In_ok-auction}

sided : (c : In_ok-side) → (is_side c.args.side ≡ true) × (c.in_ok-side.side ≡ side_from c.args.side)
sided c = side-good c.args.side c.in_ok-side.ensures

called : (c : In_ok-auction) → (is_auction c.args.which ≡ true) × (c.in_ok-auction.auction ≡ auction_from c.args.which)
called c = auction-good c.args.which c.in_ok-auction.ensures

-- no more take part than there are places
few : (c : After-ranked-count) → c.ranked-count.result ≤ places
few c = let b = c.args.session.now.book in
    omega (arith, c.ranked-count.ensures.0, ranks-fit c.in_ok-side.side c.in_ok-auction.auction b.side b.validity b.limit b.number)

pub returns-in_err-side : goal.returns-in_err-side
returns-in_err-side c =
    let a = c.args in
    let p = err_from_is_err_and c.from_residual.result c.from_residual.ensures.1 in
    rw (p.1, p.2) (queue-out-of-range a.session.now a.side a.which a.list.now (rw (side-refused a.side c.in_err-side.ensures)))

pub returns-in_err-auction : goal.returns-in_err-auction
returns-in_err-auction c =
    let a = c.args in
    let p = err_from_is_err_and c.from_residual-in_err-auction.result c.from_residual-in_err-auction.ensures.1 in
    rw (p.1, p.2) (queue-out-of-range a.session.now a.side a.which a.list.now (rw ((sided (goal.at.returns-in_err-auction c).In_ok-side).0, auction-refused a.which c.in_err-auction.ensures)))

pub returns-in_err-ranked_refusal : goal.returns-in_err-ranked_refusal
returns-in_err-ranked_refusal c =
    let a = c.args in
    let p = err_from_is_err_and c.from_residual-in_err-ranked_refusal.result c.from_residual-in_err-ranked_refusal.ensures.1 in
    rw (p.1, p.2) (queue-turned-down a.session.now a.side a.which a.list.now (sided (goal.at.returns-in_err-ranked_refusal c).In_ok-side) (called (goal.at.returns-in_err-ranked_refusal c).In_ok-auction) c.in_err-ranked_refusal.ensures (refusal-number-above _))

pub ranked-count-requires : goal.ranked-count-requires
ranked-count-requires c = let b = c.args.session.now.book in
    ranks-fit c.in_ok-side.side c.in_ok-auction.auction b.side b.validity b.limit b.number

pub slice_bounds-ranks-end : goal.slice_bounds-ranks-end
slice_bounds-ranks-end c = let h = few (goal.at.slice_bounds-ranks-end c).After-ranked-count in search rules

pub slice_bounds-list_numbers-end : goal.slice_bounds-list_numbers-end
slice_bounds-list_numbers-end c = sym (length-take-le c.ranked-count.result c.ranked-count.new.ranks (omega (arith, c.ranked-count.auto.ranks, few (goal.at.slice_bounds-list_numbers-end c).After-ranked-count)))

pub list_numbers-requires : goal.list_numbers-requires
list_numbers-requires c = let ranked = c.ranked-count in
    let a = c.args in
    omega (
      arith,
      length-take-le ranked.result ranked.new.ranks (omega (arith, ranked.auto.ranks, few (goal.at.list_numbers-requires c).After-ranked-count)),
      few (goal.at.list_numbers-requires c).After-ranked-count,
      queue-room a.session.now a.side a.which a.list.now (sided (goal.at.list_numbers-requires c).In_ok-side) (called (goal.at.list_numbers-requires c).In_ok-auction) c.in_ok-ranked_refusal.ensures refl,
    )

pub overflow_cast-result : goal.overflow_cast-result
overflow_cast-result c = let h = few (goal.at.overflow_cast-result c).After-ranked-count in search rules

pub returns : goal.returns
returns c = let ranked = c.ranked-count in
    let a = c.args in
    let s = a.session.now in
    let n = ranked.result in
    let ranks = take n ranked.new.ranks in
    let long : length ranks ≡ n = length-take-le n ranked.new.ranks (omega (arith, ranked.auto.ranks, few (goal.at.returns c).After-ranked-count)) in
    rw (← long, c.list_numbers.ensures)
    (queue-listed s a.side a.which a.list.now (sided (goal.at.returns c).In_ok-side) (called (goal.at.returns c).In_ok-auction) c.in_ok-ranked_refusal.ensures refl ranks
    (ap (map (λ x. order_at s.book (place_of_rank x))) ranked.ensures.1
    ∙ ranked-by-ranks (legal_price s) s.given s.book c.requires.book-sound (number-room s c.requires) c.in_ok-side.side c.in_ok-auction.auction))
