-- What is told together is told of the places one after the other.
use Rattle.std.proofs.Common.{◌+◌, ◌≤◌, ◌∙◌, length, arith}
use Rattle.book.specs.Groups.{told-together}
use Rattle.book.proofs.columns.holds.Goals as goal

pub returns : goal.returns
returns g c =
    let a = c.args in
    let within : a.from + 16 ≤ length a.column.now = omega arith in
    c.any_is.ensures ∙ told-together g.T.PartialEq.eq g.T.Stored.empty a.column.now a.x 16 a.from within
