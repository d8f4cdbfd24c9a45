use Rattle.book.specs.Groups.{none-has, first-sought}
use Rattle.quotes.specs.Quotes.{is_quote_in}
use Rattle.quotes.proofs.sides.quote_place.Goals as goal

pub first_place-requires-clause-may_says : goal.first_place-requires-clause-may_says
first_place-requires-clause-may_says c from p within none h k = rw (none-has c.args.book.now.quoted 1 16 from p none h k)

pub returns : goal.returns
returns c =
    let a = c.args in
    let b = a.book.now in
    let f = c.first_place.ensures in
    first-sought (is_quote_in b.quoted b.member b.side a.member a.side) c.first_place.result f.within f.found f.none_before
