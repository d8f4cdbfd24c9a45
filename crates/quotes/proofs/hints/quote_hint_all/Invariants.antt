-- The loop's invariant: the places passed have their hints.
use Rattle.std.proofs.Common.{◌≡◌, length}
use Rattle.quotes.specs.QuoteHints.{quote_hints, KnownTo}
use Rattle.quotes.proofs.hints.quote_hint_all.Given as goal

abbrev pub invariant-loop-place : goal.invariant-loop-place
invariant-loop-place l = let b = l.book in (length l.hints ≡ quote_hints) × KnownTo b.quoted b.member b.side l.hints l.side l.place
