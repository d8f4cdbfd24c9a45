-- The sums of 01 "Sums to check by hand" that have no P, and what refusals and numbers look like.
use Rattle.std.specs.Prelude.{◌≡◌, refl, [], ◌∷◌, replicate}
use Rattle.book.specs.Resting.{resting}
use Rattle.session.specs.declared.{Session.Session}
use Rattle.session.specs.State.{fresh_session}
use Rattle.entries.specs.Entry.{entered, deleted}
use Rattle.answers.specs.Auctions.{auctioned}
use Rattle.foresight.specs.Theoretical.{theoretical}
use Rattle.standings.specs.Queues.{queued}
use Rattle.worked.specs.Computing.{computing}
use Rattle.worked.specs.Samples.{started_at, entry, buy, sell, enter, auction_answered, after, opening_of, numbers}

-- empty book: outcome 2
empty-book : opening_of 100_000 [] ≡ numbers 2 0 0 0
unfolding computing
empty-book = refl

-- unlimited buy 50 at-the-close, day sell 30 at 100,200: the opening is outcome 2;
-- a closing with nothing else entered trades 30 at 100,200 and leaves no order
abbrev at_close : Session
at_close = enter (started_at 100_000) (entry 1 2 50 0 ∷ sell 30 100_200 ∷ [])

opens-without : auction_answered 1 at_close ≡ numbers 2 0 0 0
unfolding computing
opens-without = refl

closes-with : auction_answered 2 (after 1 at_close) ≡ numbers 1 100_200 30 1
unfolding computing
closes-with = refl

leaves_none : resting (after 2 (after 1 at_close)).book ≡ []
unfolding computing
leaves_none = refl

-- the second order has number 2; after order 1 is deleted the third stands at its place, and is ranked behind order 2
abbrev reused : Session
reused = enter (deleted (enter (started_at 100_000) (buy 10 100_000 ∷ buy 10 100_000 ∷ [])) 1 7).session (buy 10 100_000 ∷ [])

numbers-run : (queued reused 1 1 (replicate 512 0)).list ≡ 2 ∷ 3 ∷ replicate 510 0
unfolding computing
numbers-run = refl

-- another member's order is not deleted
not-theirs : (deleted (enter (started_at 100_000) (buy 10 100_000 ∷ [])) 1 8).answer ≡ 11
unfolding computing
not-theirs = refl

-- a refused auction leaves the lent list as it was; an auction that trades writes from the front
list-kept : (auctioned fresh_session 1 (5 ∷ 6 ∷ [])).list ≡ 5 ∷ 6 ∷ []
unfolding computing
list-kept = refl

too_short : (auctioned (started_at 100_000) 1 (replicate 2_043 0)).returned.answer ≡ 12
unfolding computing
too_short = refl

list_written : (auctioned (enter (started_at 100_000) (buy 10 100_000 ∷ sell 10 100_000 ∷ [])) 1 (replicate 2_044 9)).list ≡ 1 ∷ 2 ∷ 10 ∷ 100_000 ∷ replicate 2_040 9
unfolding computing
list_written = refl

-- checks in their order: a field, then the start, then the phase, then the step
field-first : (entered fresh_session (entry 3 1 0 1)).answer ≡ 1
unfolding computing
field-first = refl

start-next : (entered fresh_session (buy 10 100_000)).answer ≡ 2
unfolding computing
start-next = refl

phase-next : (entered (after 1 (started_at 100_000)) (entry 1 1 10 100_001)).answer ≡ 4
unfolding computing
phase-next = refl

step-next : (entered (started_at 100_000) (buy 10 900_001)).answer ≡ 5
unfolding computing
step-next = refl

-- the theoretical answer is for the auction that the phase allows
closing-not-yet : (theoretical (started_at 100_000) 2).answer ≡ 4
unfolding computing
closing-not-yet = refl
