-- Weighing, as the code goes about it: the limits of a queue one after the other, by their ranks.
use Rattle.std.specs.Prelude.{ℕ, ◌+◌, ◌≤◌, ◌<◌, min, Bool, true, false, not, ◌&&◌, ◌≡◌, refl, List, map, eqb, length, get_or, drop}
use Rattle.std.proofs.Common.{true≢false, ap, ◌∙◌, drop_of_length-le, add-one, arith, eqb-true, ne_eqb}
use Rattle.std.proofs.Math.Path.{sym}
use Rattle.std.proofs.Math.Seq.{drop-cons}
use Rattle.lists.specs.Sums.{apart}
use Rattle.price.specs.Search.{first_weighed, weighed, weigh_limit, weigh_all, found_in, searched_in}
use Rattle.price.proofs.SearchFinds.{weighed-twice}
use Rattle.price.specs.declared.weigh.{Weighed.Weighed}
use Rattle.price.specs.declared.search.{Found.Found}
use Rattle.price.specs.Weighing.{is_new}

-- From the place i on: an unlimited order is passed over, and so is one with the last limit that was weighed; the limit of any other is weighed.
module _ (reference : ℕ) (demand supply : ℕ → ℕ) (limit_of : ℕ → ℕ) (ranks : List ℕ) where
  abbrev weigh_from : ℕ → Weighed → Weighed
  weigh_from i w = weigh_all reference demand supply (map limit_of (drop i ranks)) w

  next : (i : ℕ) (w v : Weighed) (l : ℕ) → i < length ranks → l ≡ limit_of (get_or ranks i 0) → v ≡ weigh_limit reference demand supply l w → weigh_from i w ≡ weigh_from (i + 1) v
  unfolding weigh_all
  next i w v l h e ev = rw (add-one, drop-cons ranks i 0 h, ← e, ev)

  -- what the limits to come make of w is what all make of the start, and the last one weighed changes nothing when it comes again
  pub record WeighedTo (start : Weighed) (i last : ℕ) (w : Weighed) : Type 0 where
    pub within : i ≤ length ranks
    pub whole : weigh_from 0 start ≡ weigh_from i w
    pub again : weigh_limit reference demand supply last w ≡ w

  pub to_start : (w : Weighed) → WeighedTo w 0 0 w
  to_start w = record { within = omega arith; whole = refl; again = refl }

  module _ (start : Weighed) (i last : ℕ) (w : Weighed) (so : WeighedTo start i last w) where
    pub to_end : length ranks ≤ i → w ≡ weigh_all reference demand supply (map limit_of ranks) start
    unfolding weigh_all
    to_end h = sym (so.whole ∙ rw (drop_of_length-le ranks h))

    module _ (l : ℕ) (h : i < length ranks) (e : l ≡ limit_of (get_or ranks i 0)) where
      pub to-passed : is_new l last ≡ false → WeighedTo start (i + 1) last w
      to-passed old = record { within = omega arith; whole = so.whole ∙ next i w w l h e (sym (stays (eqb l 0) (eqb l last) refl refl old)); again = so.again }
        where
          stays : (a b : Bool) → eqb l 0 ≡ a → eqb l last ≡ b → (not a && not b) ≡ false → weigh_limit reference demand supply l w ≡ w
          stays true b ea eb k = rw ea
          stays false true ea eb k = rw (eqb-true l last eb) so.again
          stays false false ea eb k = absurd (true≢false k)

      pub to-weighed : is_new l last ≡ true → (d s : ℕ) → d ≡ demand l → s ≡ supply l → WeighedTo start (i + 1) l (weighed reference l d s w)
      to-weighed new d s ed es = record {
        within = omega arith;
        whole = so.whole ∙ next i w _ l h e (rw (limited, ed, es));
        again = rw (limited, ed, es) (weighed-twice reference l (demand l) (supply l) w);
      }
        where
          limited : eqb l 0 ≡ false
          limited = ne_eqb l 0 (λ z. true≢false (sym (rw z at new)))

-- the search in its steps
pub searched-from : (reference : ℕ) (demand supply : ℕ → ℕ) (bids asks : List ℕ) {r : Found} {last bid alone : Weighed} {most least d s : ℕ}
    → r ≡ found_in demand supply last → last ≡ weigh_all reference demand supply asks bid → bid ≡ weigh_all reference demand supply bids alone
    → alone ≡ first_weighed reference most least → most ≡ min d s → least ≡ apart d s → d ≡ demand reference → s ≡ supply reference
    → r ≡ searched_in reference demand supply bids asks
searched-from reference demand supply bids asks found sold bought first more less bought-at sold-at =
    found ∙ ap (found_in demand supply) (sold ∙ ap (weigh_all reference demand supply asks) (bought ∙ ap (weigh_all reference demand supply bids) (first ∙ rw (more, less, bought-at, sold-at))))
