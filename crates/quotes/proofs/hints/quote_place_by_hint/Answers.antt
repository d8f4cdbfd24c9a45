use Rattle.std.proofs.Common.{sym, ◌∙◌}
use borrow.Author.Tests.{eq-eqb}
use Rattle.quotes.specs.QuoteHints.{quote-nowhere, quote-at}
use Rattle.quotes.proofs.hints.quote_place_by_hint.Goals as goal

pub returns-then-hint-eq0 : goal.returns-then-hint-eq0
returns-then-hint-eq0 c =
    let a = c.args in
    let b = a.book.now in
    quote-nowhere b.quoted b.member b.side a.member a.side a.hints.now c.requires.1 (sym c.from-hint.ensures ∙ c.if-hint-eq0.true)

pub returns-then-book-place : goal.returns-then-book-place
returns-then-book-place c =
    let a = c.args in
    let b = a.book.now in
    quote-at b.quoted b.member b.side a.member a.side c.requires.0 _ c.if-place-lt-COUNT.true (rw (eq-eqb _ 1 c.if-book-place-eq1.true, c.if-book-place.true))
