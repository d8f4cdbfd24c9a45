-- Given exactly when (A4): a refusal's number answers if and only if its rule holds and the rule of no earlier check does.
use Rattle.std.specs.Prelude.{ℕ, ◌<◌, Bool, true, false, cond, not, ◌&&◌, ◌||◌, ◌↔◌, ◌≢◌, ◌≡◌, refl, List, [], ◌∷◌, T, eqb, ltb}
use Rattle.std.proofs.Common.{true≢false, sym, subst, ◌∙◌, arith, eqb-true}
use Rattle.std.proofs.lemmas.Bool.{eqb-false}
use Rattle.lists.specs.Tests.{tests, and_both}
use Rattle.lists.specs.Choice.{any}
use Rattle.refusals.specs.Checks.{Check, first_hit, numbered}

-- the rule of refusal k among the checks, and the checks before it
abbrev pub rule_of : ℕ → List Check → Bool
rule_of k [] = false
rule_of k (c ∷ cs) = cond (eqb c.number k) c.hit (rule_of k cs)

abbrev pub earlier : ℕ → List Check → List Check
earlier k [] = []
earlier k (c ∷ cs) = cond (eqb c.number k) [] (c ∷ earlier k cs)

-- no rule holds
abbrev pub NoneHit : List Check → Type 0
NoneHit [] = Unit {0}
NoneHit (c ∷ cs) = (c.hit ≡ false) × NoneHit cs

-- each check has a number of its own, above 0
abbrev pub well_numbered : List Check → Bool
well_numbered [] = true
well_numbered (c ∷ cs) = ltb 0 c.number && not (any (λ d. eqb d.number c.number) cs) && well_numbered cs

-- a number that no check has is not answered
other-number : (k : ℕ) (cs : List Check) → 0 < k → T (not (any (λ d. eqb d.number k) cs)) → first_hit cs ≢ k
unfolding first_hit
other-number k [] h n e = omega arith
other-number k (c ∷ cs) h n e = go c.hit (eqb c.number k) refl n (other-number k cs h) e
  where
    go : (b t : Bool) → eqb c.number k ≡ t → T (not (t || any (λ d. eqb d.number k) cs)) → (T (not (any (λ d. eqb d.number k) cs)) → first_hit cs ≢ k) → cond b c.number (first_hit cs) ≡ k → ⊥
    go true true i n below e = n
    go true false i n below e = eqb-false c.number k i e
    go false true i n below e = n
    go false false i n below e = below n e

pub none-hit : (cs : List Check) → T (well_numbered cs) → (first_hit cs ≡ 0) ↔ NoneHit cs
unfolding first_hit
none-hit [] w = ((λ e. tt), (λ h. refl))
none-hit (c ∷ cs) w =
    let (first, later) = and_both (ltb 0 c.number && not (any (λ d. eqb d.number c.number) cs)) _ w in
    let (above, apart) = and_both (ltb 0 c.number) _ first in
    go c.hit above (none-hit cs later)
  where
    go : (b : Bool) → T (ltb 0 c.number) → (first_hit cs ≡ 0) ↔ NoneHit cs → (cond b c.number (first_hit cs) ≡ 0) ↔ ((b ≡ false) × NoneHit cs)
    go true above below = ((λ e. absurd (omega tests)), (λ (h, k). absurd (true≢false h)))
    go false above below = ((λ e. (refl, below.0 e)), (λ (h, k). below.1 k))

-- where nothing was refused, no check's rule holds, whichever its number
pub clear : (cs : List Check) → T (numbered cs) → 0 ≡ first_hit cs → (k : ℕ) → rule_of k cs ≡ false
unfolding first_hit
clear [] w e k = refl
clear (c ∷ cs) w e k =
    let (above, rest) = and_both (ltb 0 c.number) _ w in
    go c.hit refl (eqb c.number k) above e (λ i. clear cs rest i k)
  where
    go : (b : Bool) → c.hit ≡ b → (t : Bool) → T (ltb 0 c.number) → 0 ≡ cond b c.number (first_hit cs) → (0 ≡ first_hit cs → rule_of k cs ≡ false) → cond t c.hit (rule_of k cs) ≡ false
    go true i t above e below = absurd (omega tests)
    go false i true above e below = i
    go false i false above e below = below e

pub given-exactly-when : (cs : List Check) → T (well_numbered cs) → (k : ℕ) → 0 < k → (first_hit cs ≡ k) ↔ (T (rule_of k cs) × NoneHit (earlier k cs))
unfolding first_hit
given-exactly-when [] w k h = ((λ e. absurd (omega arith)), (λ (t, n). absurd t))
given-exactly-when (c ∷ cs) w k h =
    let (first, later) = and_both (ltb 0 c.number && not (any (λ d. eqb d.number c.number) cs)) _ w in
    let (above, alone) = and_both (ltb 0 c.number) _ first in
    go c.hit refl (eqb c.number k) refl alone (given-exactly-when cs later k h)
  where
    go : (b : Bool) → c.hit ≡ b → (t : Bool) → eqb c.number k ≡ t → T (not (any (λ d. eqb d.number c.number) cs)) → (first_hit cs ≡ k) ↔ (T (rule_of k cs) × NoneHit (earlier k cs))
        → (cond b c.number (first_hit cs) ≡ k) ↔ (T (cond t b (rule_of k cs)) × NoneHit (cond t [] (c ∷ earlier k cs)))
    go true j true i alone below = ((λ e. (tt, tt)), (λ x. eqb-true c.number k i))
    go true j false i alone below = ((λ e. absurd (eqb-false c.number k i e)), (λ x. absurd (true≢false (sym j ∙ x.1.0))))
    go false j true i alone below =
        ((λ e. absurd (other-number k cs h (subst (λ (n : ℕ). T (not (any (λ d. eqb d.number n) cs))) (eqb-true c.number k i) alone) e)), (λ x. absurd x.0))
    go false j false i alone below = ((λ e. let (r, n) = below.0 e in (r, (j, n))), (λ x. below.1 (x.0, x.1.1)))
