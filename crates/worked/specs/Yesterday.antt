-- Controls by the start's reference price (02 K4) by hand: a start at 100,000, an opening far from it, and what passes then.
use Rattle.std.specs.Prelude.{ℕ, ◌≡◌, refl, [], ◌∷◌}
use Rattle.session.specs.declared.{Session.Session}
use Rattle.entries.specs.Entry.{entered}
use Rattle.worked.specs.Computing.{computing}
use Rattle.worked.specs.Samples.{started_at, buy, sell, buy_any, sell_any, enter, auction_answered, after, numbers}

-- asked twice, since the price is far away
abbrev opened_at : ℕ → Session
opened_at price = after 1 (after 1 (enter (started_at 100_000) (buy 10 price ∷ sell 10 price ∷ [])))

-- 12,000 × 9 is above 100,000 and below 400,000; 2,500,000 × 100,000 is below the maximum and 2,500,000 × 400,000 reaches it
passes-far-above : ((entered (opened_at 400_000) (buy 10 12_000)).answer ≡ 0) × ((entered (opened_at 400_000) (buy_any 2_500_000)).answer ≡ 0)
unfolding computing
passes-far-above = (refl, refl)

-- 11,100 × 9 is below 100,000 and above 25,000; 10,000,000 × 100,000 reaches the maximum and 10,000,000 × 25,000 doesn't
refused-far-below : ((entered (opened_at 25_000) (buy 10 11_100)).answer ≡ 6) × ((entered (opened_at 25_000) (sell_any 10_000_000)).answer ≡ 8)
unfolding computing
refused-far-below = (refl, refl)

-- the price goes on with the one in force
closes-in-force : auction_answered 2 (enter (opened_at 400_000) (buy_any 10 ∷ sell_any 10 ∷ [])) ≡ numbers 1 400_000 10 1
unfolding computing
closes-in-force = refl
