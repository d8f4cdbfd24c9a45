use Rattle.std.proofs.Common.{ℕ, ◌≡◌, ◌<◌, ◌+◌, ◌∙◌, refl, ap, List, [], ◌∷◌, rules, sum}
use Rattle.std.proofs.iter.runs.Made.{chains}
use Rattle.std.proofs.lemmas.List.Sums.{sum_by-cons}
use Rattle.squares.specs.Square.{total}
use Rattle.squares.proofs.total_of.Goals as goal

as_sum : (cells : List ℕ) → sum cells ≡ total cells
as_sum [] = refl
as_sum (x ∷ cells) = sum_by-cons (λ x. x) x cells ∙ ap (λ n. x + n) (as_sum cells)

pub sum-requires-clause-fits : goal.sum-requires-clause-fits
sum-requires-clause-fits c = let h : sum c.args.totals.now < 18446744073709551616 = rw as_sum c.requires.1 in search (rules, chains)

pub returns : goal.returns
returns c = let e : c.sum.result ≡ sum c.args.totals.now = search (rules, chains) in e ∙ as_sum c.args.totals.now
