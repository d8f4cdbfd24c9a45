use Rattle.std.proofs.Common.{◌≡◌, ◌∙◌, refl, ap, sym, zero, suc, add-one, ◌≤◌, take, take_all, sum_by, ◌*◌, ℕ, List, length, arith, rules, map, sum}
use Rattle.std.proofs.lemmas.Iterator.{YieldsList-from_slice}
use Rattle.std.proofs.lemmas.Iterator.Adapters.{fits_from_length, at_most_from_yields_List}
use Rattle.std.proofs.lemmas.List.Sums.{sum_by_more, sum-map}
use Rattle.std.proofs.iter.runs.Made.{chains}
use Rattle.lists.specs.Tests.{tests}
use Rattle.places.specs.Places.{bit, total, bit_at, count_taken}
use Rattle.places.specs.Words.{total-word}
use Rattle.places.proofs.words.count_taken.Goals as goal

pub sum-requires-clause-fits : goal.sum-requires-clause-fits
sum-requires-clause-fits c = fits_from_length _ _ 8 18446744073709551616 (at_most_from_yields_List (YieldsList-from_slice c.args.taken (cc)) (omega arith)) c.map.ensures.closure (omega arith) (λ x r q k. search (rules, tests))

-- the bits of a word
abbrev ones : ℕ → ℕ
ones w = total (λ k. bit k w) 64

-- those of the first words, added up
first-counted : (ws : List ℕ) (n : ℕ) → n ≤ length ws → sum_by ones (take n ws) ≡ total (bit_at ws) (n * 64)
unfolding total
first-counted ws zero h = refl
first-counted ws (suc n) h =
    rw (← add-one n, sum_by_more ones ws n 0 (omega arith), total-word ws n, first-counted ws n (omega arith))

words-counted : (ws : List ℕ) → length ws ≡ 8 → sum (map ones ws) ≡ count_taken ws
words-counted ws h = sum-map ones ws ∙ ap (sum_by ones) (sym (take_all 8 ws (omega arith))) ∙ first-counted ws 8 (omega arith)

pub returns : goal.returns
returns c = let e : c.sum.result ≡ sum (map ones c.args.taken) = search (rules, chains) in e ∙ words-counted c.args.taken (omega arith)
