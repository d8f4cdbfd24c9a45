use mathlib.Core.Bool.{and-false}
use Rattle.book.specs.Resting.{is_sought}
use Rattle.book.specs.Groups.{none-has, first-sought}
use Rattle.book.proofs.Book.place_of.Goals as goal

pub first_place-requires-clause-may_says : goal.first_place-requires-clause-may_says
first_place-requires-clause-may_says c from p within none h k =
    let a = c.args in
    rw (none-has a.self.now.number a.number 16 from p none h k, and-false)

pub returns : goal.returns
returns c =
    let a = c.args in
    let b = a.self.now in
    let f = c.first_place.ensures in
    first-sought (is_sought b.taken b.number b.member a.number a.member) c.first_place.result f.within f.found f.none_before
