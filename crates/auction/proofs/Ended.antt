-- What rests at each place after an auction, from what the trades leave there: nothing of an order whose validity ends (01 "Outcomes").
use Prim.Native.Nat.{ℕ, zero, suc, ◌+◌, ◌-◌, ◌≤◌, ◌<◌}
use Rattle.std.specs.Prelude.{Bool, ◌||◌, ◌≡◌, List, eqb, length, get_or, set}
use Rattle.std.proofs.Math.Bool.{true, false, cond}
use Rattle.std.proofs.Math.Option.{none, some}
use Rattle.std.proofs.Math.Logic.{⊎_elim}
use Rattle.std.proofs.Math.Path.{refl, ap}
use Rattle.std.proofs.Common.{◌∙◌, add-one, arith, get_or-set_same}
use Rattle.std.proofs.Math.ListN.{length-set}
use Rattle.std.proofs.Math.Seq.{get_or-set_other}
use Rattle.terms.specs.Bounds.{places}
use Rattle.terms.specs.declared.orders.{Auction.Auction}
use Rattle.book.specs.declared.Book.{Book}
use Rattle.book.specs.Columns.{values_at, order_from, order_at, with_left}
use Rattle.book.specs.Sound.{same_or_not}
use Rattle.book.specs.Settling.{rest_from}
use Rattle.trades.specs.declared.{Trade.Trade}
use Rattle.trades.specs.Trades.{traded}
use Rattle.auction.specs.After.{ends, rest_of}
use Rattle.auction.specs.Ended.{ended, ended_to, rest_with}

module _ (a : Auction) (validities lefts : List ℕ) where
  -- one place on
  pub ended-next : (n : ℕ) (now : List ℕ) → now ≡ ended_to a validities lefts n → (rest : ℕ) → rest ≡ rest_with a (get_or validities n 0) (get_or now n 0)
      → set now n rest ≡ ended_to a validities lefts (n + 1)
  unfolding ended_to
  ended-next n now so_far rest is = rw (add-one, ← so_far, is)

  pub ended-length : (n : ℕ) → length (ended_to a validities lefts n) ≡ length lefts
  unfolding ended_to
  ended-length zero = refl
  ended-length (suc n) = rw length-set (ended-length n)

  -- places not reached yet are as before
  ended-later : (n p : ℕ) → n ≤ p → get_or (ended_to a validities lefts n) p 0 ≡ get_or lefts p 0
  unfolding ended_to
  ended-later zero p h = refl
  ended-later (suc n) p h = get_or-set_other (ended_to a validities lefts n) n p _ 0 (λ e. omega arith) ∙ ended-later n p (omega arith)

  ended-to-at : (n p : ℕ) → p < n → p < length lefts → get_or (ended_to a validities lefts n) p 0 ≡ rest_with a (get_or validities p 0) (get_or lefts p 0)
  unfolding ended_to
  ended-to-at zero p h l = absurd (omega arith)
  ended-to-at (suc n) p h l =
      ⊎_elim
      (λ i. rw i (get_or-set_same (ended_to a validities lefts n) n _ 0 (omega (arith, ended-length n)) ∙ ap (rest_with a (get_or validities n 0)) (ended-later n n (omega arith))))
      (λ m. get_or-set_other (ended_to a validities lefts n) n p _ 0 m ∙ ended-to-at n p (omega arith) l)
      (same_or_not p n)

  pub ended_at : (p : ℕ) → p < places → p < length lefts → get_or (ended a validities lefts) p 0 ≡ rest_with a (get_or validities p 0) (get_or lefts p 0)
  ended_at p h l = ended-to-at places p h l

-- What rests of the order at a place, from what the trades leave there, is what rests of it by the rule.
module _ (a : Auction) (trades : List Trade) (b : Book) (p left : ℕ) (is : left ≡ (order_at b p).left - traded (order_at b p).side (order_at b p).number trades) where
  pub rest_from_lem : rest_of a trades (order_at b p) ≡ rest_from (rest_with a (get_or b.validity p 0) left) (values_at b p)
  unfolding rest_of
  rest_from_lem = rw is (go (ends a (order_at b p).validity) ((order_at b p).left - traded (order_at b p).side (order_at b p).number trades))
    where
      go : (e : Bool) (x : ℕ) → cond (eqb x 0 || e) none (some (order_from (with_left (values_at b p) x))) ≡ rest_from (cond e 0 x) (values_at b p)
      go true x = gone (eqb x 0)
        where
          gone : (t : Bool) → cond (t || true) none (some (order_from (with_left (values_at b p) x))) ≡ none
          gone true = refl
          gone false = refl
      go false x = kept (eqb x 0)
        where
          kept : (t : Bool) → cond (t || false) none (some (order_from (with_left (values_at b p) x))) ≡ cond t none (some (order_from (with_left (values_at b p) x)))
          kept true = refl
          kept false = refl
