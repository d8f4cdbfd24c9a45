-- What rests at each place after an auction, from what the trades leave there: nothing of an order whose validity ends (01 "Outcomes").
use Prim.Native.Nat.{ℕ, zero, suc}
use Rattle.std.specs.Prelude.{List, get_or, set}
use Rattle.std.proofs.Math.Bool.{cond}
use Rattle.terms.specs.Bounds.{places}
use Rattle.terms.specs.Orders.{validity_from}
use Rattle.terms.specs.declared.orders.{Auction.Auction}
use Rattle.auction.specs.After.{ends}

-- what rests of an order of this validity, as the column holds it
abbrev pub rest_with : Auction → ℕ → ℕ → ℕ
rest_with a validity left = cond (ends a (validity_from validity)) 0 left

-- .. at the first n places
unfoldable pub ended_to : Auction → List ℕ → List ℕ → ℕ → List ℕ
ended_to a validities lefts zero = lefts
ended_to a validities lefts (suc n) =
    set (ended_to a validities lefts n) n (rest_with a (get_or validities n 0) (get_or (ended_to a validities lefts n) n 0))

abbrev pub ended : Auction → List ℕ → List ℕ → List ℕ
ended a validities lefts = ended_to a validities lefts places
