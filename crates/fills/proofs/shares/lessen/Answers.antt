use Rattle.std.proofs.Common.{ℕ, ◌≡◌, refl, List, [], ◌∷◌, ◌∙◌, ◌⊎◌, inl, inr, ⊎_elim, length}
use Rattle.fills.specs.Shares.{lessened}
use Rattle.fills.proofs.shares.lessen.Goals as goal

-- nothing is left of one of the two
none_left : (ranks shares lefts : List ℕ) → (length ranks ≡ 0) ⊎ (length shares ≡ 0) → lefts ≡ lessened ranks shares lefts
unfolding lessened
none_left [] shares lefts h = refl
none_left (r ∷ ranks) [] lefts h = refl
none_left (r ∷ ranks) (q ∷ shares) lefts (inl h) = cc
none_left (r ∷ ranks) (q ∷ shares) lefts (inr h) = cc

pub loop-rank-preserved : goal.loop-rank-preserved
unfolding lessened
loop-rank-preserved c = let h = c.in-Some.ensures.steps in
    rw (c.saturating_sub.ensures, c.place_of_rank-place.ensures.0) (rw (h.0, h.1) at c.loop-rank.invariant)

pub returns : goal.returns
returns c = none_left _ _ _ (⊎_elim (λ e. inl e.1.0) (λ e. inr e.1.0) c.in-None.ensures.steps) ∙ c.loop-rank.invariant
