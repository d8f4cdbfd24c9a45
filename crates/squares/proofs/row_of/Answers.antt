use Rattle.std.proofs.Common.{ℕ, ◌≡◌, ◌≤◌, ◌∙◌, refl, ap, take, length, Bool, true, false, cond, Some, None, List, eqb, nat_lt, ltb-false, arith, rules}
use Rattle.std.specs.Option.{unwrap_or}
use Rattle.std.specs.List.{position}
use Rattle.std.proofs.lemmas.Iterator.{YieldsList-from_slice}
use Rattle.std.proofs.lemmas.Iterator.Search.{position_from_yields_List}
use Rattle.std.proofs.lemmas.List.Recursion.{is_position_or_len}
use Rattle.squares.specs.Square.{row_of}
use Rattle.squares.specs.Rows.{row-at-most}
use Rattle.squares.proofs.row_of.Goals as goal

-- where a member stands, or behind the last
place_found : (xs : List ℕ) (m n : ℕ) → length xs ≡ n → unwrap_or (position (λ x. eqb x m) xs) n ≡ row_of xs m
place_found xs m n long = rw (← is_position_or_len (λ l. row_of l m) (λ x. eqb x m) refl (λ x l. ap (λ (k : ℕ). cond (eqb x m) 0 k) (omega arith)) xs) (go (row_of xs m) (row-at-most xs m) (nat_lt (row_of xs m) (length xs)) refl)
  where
    go : (k : ℕ) → k ≤ length xs → (b : Bool) → nat_lt k (length xs) ≡ b → unwrap_or (cond b (Some k) None) n ≡ k
    go k h true e = refl
    go k h false e = let r : n ≡ k = omega (arith, ltb-false k (length xs) e) in r

pub returns : goal.returns
returns c =
    let a = c.args in
    let xs = take a.entered a.members.now in
    let e : c.position.result ≡ position (λ x. eqb x a.member) xs = position_from_yields_List (λ x. eqb x a.member) _ _ c.position.result c.position.ensures.ran (YieldsList-from_slice xs c.iter.ensures.rest) (λ x b q k. search rules) in
    c.unwrap_or.ensures ∙ rw e (place_found xs a.member a.entered (omega arith))
