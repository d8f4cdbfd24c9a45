-- Worked examples: who takes part, and rank.
use Rattle.std.specs.Prelude.{◌≡◌, refl, [], ◌∷◌}
use Rattle.terms.specs.declared.orders.{Side.TheVariants.Buy, Side.TheVariants.Sell, Auction.TheVariants.Opening, Auction.TheVariants.Closing}
use Rattle.queue.specs.Part.{taking_part}
use Rattle.queue.specs.Rank.{ranked}
use Rattle.queue.specs.Examples.{four, mixed, numbers_of}

-- the opening leaves at-the-close orders out; the closing leaves none out
at-the-opening : numbers_of (taking_part Opening four) ≡ 1 ∷ 3 ∷ 4 ∷ []
unfolding taking_part
at-the-opening = refl

at-the-closing : numbers_of (taking_part Closing four) ≡ 1 ∷ 2 ∷ 3 ∷ 4 ∷ []
unfolding taking_part
at-the-closing = refl

buys-ranked : numbers_of (ranked Buy mixed) ≡ 8 ∷ 5 ∷ 2 ∷ 9 ∷ []
unfolding ranked
buys-ranked = refl

sells-ranked : numbers_of (ranked Sell mixed) ≡ 4 ∷ 3 ∷ []
unfolding ranked
sells-ranked = refl
