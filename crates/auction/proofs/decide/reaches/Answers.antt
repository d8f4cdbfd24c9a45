use native.Mathlib.Omega.{arith}
use Rattle.lists.specs.Sums.{apart, apart-le}
use Rattle.auction.proofs.decide.reaches.Goals as goal

-- two prices are no further apart than either is high
pub overflow_mul-result : goal.overflow_mul-result
unfolding apart
overflow_mul-result c = let a = c.args in
    omega (arith, c.from-away.ensures, c.abs_diff.ensures, apart-le a.price a.reference 4294967295 (omega arith) (omega arith))

pub returns : goal.returns
unfolding apart
returns c = rw (c.product.ensures, c.from.ensures, c.from-away.ensures, c.abs_diff.ensures)
