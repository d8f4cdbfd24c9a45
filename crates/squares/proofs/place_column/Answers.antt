use Rattle.std.proofs.Common.{◌∙◌, sym, arith, rules}
use Rattle.std.proofs.lemmas.Grind.{same_number_lists}
use Rattle.terms.specs.Bounds.{places}
use Rattle.squares.specs.Naming.{place_column, place_at, places-length}
use Rattle.squares.proofs.place_column.Goals as goal

-- the same at each place
pub returns : goal.returns
returns c =
    let made = c.from_fn.ensures.items in
    same_number_lists c.from_fn.result place_column (made.long ∙ sym (places-length places))
    (λ k h. (let e = made.at k 0 (omega (arith, made.long)) in search rules) ∙ sym (place_at places k (omega (arith, made.long))))
