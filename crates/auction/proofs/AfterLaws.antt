-- After an auction: 01 "Outcomes", what is left of the orders and which rests are deleted.
use Rattle.std.specs.Prelude.{ℕ, Bool, true, cond, ◌||◌, ◌≡◌, List, leb}
use Rattle.std.proofs.Math.Bool.{false}
use Rattle.std.proofs.Math.Option.{none, some, none-ne-some, some-injective}
use Rattle.std.proofs.Math.Path.{refl}
use Rattle.std.proofs.Common.{subst}
use borrow.Author.Tests.{eqb-false}
use Rattle.std.proofs.Math.Dec.{eqb}
use Rattle.lists.specs.Tests.{tests, and_both, and_intro}
use Rattle.terms.specs.Bounds.{min_quantity, max_quantity}
use Rattle.terms.specs.Orders.{Resting}
use Rattle.terms.specs.declared.orders.{Auction.Auction}
use Rattle.book.specs.Sound.{SoundOrder}
use Rattle.book.specs.Changed.{Keeps}
use Rattle.trades.specs.declared.{Trade.Trade}
use Rattle.auction.specs.After.{ends, remaining, rest_of}

-- What rests of a sound order is sound, and the order that it was.
module _ (legal : ℕ → Bool) (given : ℕ) (a : Auction) (trades : List Trade) where
  -- what remains is above 0 and no more than before
  pub rest-keeps : (o o' : Resting) → SoundOrder legal given o → rest_of a trades o ≡ some o' → SoundOrder legal given o' × Keeps o' o
  unfolding rest_of
  rest-keeps o o' sound = go (eqb (remaining trades o).left 0) refl (ends a o.validity)
    where
      good : eqb (remaining trades o).left 0 ≡ false → SoundOrder legal given (remaining trades o)
      good e = record {
        numbered = sound.numbered;
        given-already = sound.given-already;
        of-member = sound.of-member;
        open-quantity =
            let most = (and_both (leb min_quantity o.left) (leb o.left max_quantity) sound.open-quantity).1 in
            let some_left = eqb-false (remaining trades o).left 0 e in
            and_intro (leb min_quantity (remaining trades o).left) (leb (remaining trades o).left max_quantity) (omega tests) (omega tests);
        limit-in-range = sound.limit-in-range;
        limit-legal = sound.limit-legal;
      }

      go : (s : Bool) → eqb (remaining trades o).left 0 ≡ s → (t : Bool) → cond (s || t) none (some (remaining trades o)) ≡ some o' → SoundOrder legal given o' × Keeps o' o
      go true e t f = absurd (none-ne-some o' f)
      go false e true f = absurd (none-ne-some o' f)
      go false e false f =
          let i = some-injective (remaining trades o) o' f in
          (subst (SoundOrder legal given) i (good e), subst (λ (x : Resting). Keeps x o) i (record { number = refl; member = refl; side = refl; quoted = refl }))
