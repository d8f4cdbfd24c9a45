use borrow.Author.Tests.{eq-eqb}
use mathlib.Core.Path.{sym, ◌∙◌}
use Rattle.book.specs.Hints.{place-not-given, place-of-member, place-of-another}
use Rattle.book.proofs.Book.place_by_hint.Goals as goal

pub returns-then-given-number : goal.returns-then-given-number
returns-then-given-number c = let a = c.args in
    place-not-given a.self.now.taken a.self.now.number a.self.now.member a.number a.member a.given c.requires c.if-given-number.true

pub returns-then-self-place-2 : goal.returns-then-self-place-2
returns-then-self-place-2 c = let a = c.args in
    let b = a.self.now in
    place-of-member b.taken b.number b.member a.number a.member a.given c.requires _ c.if-place-lt-COUNT.true
    (eq-eqb _ 1 (sym c.bit_of.ensures ∙ c.if-bit_of-eq1.true)) c.if-self-place.true c.if-self-place-2.true

pub returns-then-bit_of-eq1 : goal.returns-then-bit_of-eq1
returns-then-bit_of-eq1 c = let a = c.args in
    let b = a.self.now in
    place-of-another b.taken b.number b.member a.number a.member a.given c.requires _ c.if-place-lt-COUNT.true
    (eq-eqb _ 1 (sym c.bit_of.ensures ∙ c.if-bit_of-eq1.true)) c.if-self-place.true c.if-self-place-2.false
