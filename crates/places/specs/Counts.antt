-- How many places are taken once one more is, and so when a second one is free.
use Rattle.std.specs.Prelude.{ℕ, zero, suc, ◌+◌, ◌/◌, ◌≤◌, ◌<◌, Bool, true, false, not, cond, ◌≢◌, ◌≡◌, refl, List, eqb, ltb, length, get_or}
use Rattle.std.proofs.Common.{⊎_elim, sym, ap, ◌∙◌, arith, eq-eqb, ne_eqb, eqb-true, lt-ltb, le-ltb, ltb-true}
use Rattle.std.proofs.lemmas.Bool.{eqb-false}
use Rattle.std.proofs.Math.ListN.{get_or-eq_default}
use Rattle.std.proofs.Math.Seq.{set_out}
use Rattle.lists.specs.Sums.{counted}
use Rattle.lists.specs.Tests.{tests, decided}
use Rattle.terms.specs.Bounds.{places}
use Rattle.terms.specs.Kinds.{is_place}
use Rattle.places.specs.Places.{bit, bit_at, is_taken, lowest_free, total, count_taken, is_short, marked, marked_at}
use Rattle.places.specs.Words.{bit-lt, bit-zero, total-word, total-same, total-most, marked-taken, marked-elsewhere, lowest-free-clear, full-none-free, count-is-taken}

-- a total in which one more is counted at one place
total-one-more : (f g : ℕ → ℕ) (n p : ℕ) → p < n → ((k : ℕ) → k ≢ p → g k ≡ f k) → g p ≡ f p + 1 → total g n ≡ total f n + 1
unfolding total
total-one-more f g zero p h same one = absurd (omega arith)
total-one-more f g (suc n) p h same one =
    ⊎_elim
    (λ b. omega (arith, total-one-more f g n p (omega tests) same one, same n (λ e. omega tests)))
    (λ b. let e : p ≡ n = omega tests in omega (arith, total-same f g n (λ k l. sym (same k (λ i. omega arith))), ap f e, ap g e, one))
    (decided (ltb p n))

-- a place whose word is not there isn't marked
marked-beyond : (ws : List ℕ) (p : ℕ) → length ws ≤ p / 64 → marked ws p ≡ ws
unfolding marked
marked-beyond ws p h = set_out ws (p / 64) _ h

-- .. and one that counts nothing
total-none : (f : ℕ → ℕ) (n : ℕ) → ((k : ℕ) → f k ≡ 0) → total f n ≡ 0
unfolding total
total-none f zero h = refl
total-none f (suc n) h = omega (arith, total-none f n h, h n)

module _ (ws : List ℕ) where
  pub marked-count : (p : ℕ) → p < places → p / 64 < length ws → is_taken ws p ≡ false → count_taken (marked ws p) ≡ count_taken ws + 1
  marked-count p h word free =
      count-is-taken (marked ws p)
      ∙ total-one-more (λ k. counted (is_taken ws k) 1) (λ k. counted (is_taken (marked ws p) k) 1) places p h (λ k n. rw (marked-elsewhere ws p k word n)) (rw (marked-taken ws p word, free))
      ∙ ap (λ (n : ℕ). n + 1) (sym (count-is-taken ws))

  -- the places of a word that is not there are free
  few_words : length ws ≤ 7 → count_taken ws ≤ 448
  few_words h =
      let gone : get_or ws 7 0 ≡ 0 = get_or-eq_default ws 0 h in
      omega (arith, total-word ws 7, total-none (λ k. bit k (get_or ws 7 0)) 64 (λ k. rw gone (bit-zero k)), total-most (bit_at ws) 448 (λ k. bit-lt _ _))

  -- no second place is free exactly where fewer than two are
  pub no-second-free : not (is_place (lowest_free (marked_at ws (lowest_free ws)))) ≡ is_short ws
  no-second-free = go (is_place (lowest_free ws)) refl
    where
      most : count_taken ws ≤ places
      most = total-most _ places (λ k. bit-lt _ _)

      some_left : (n : ℕ) → n ≢ places → n ≤ places → eqb (n + 1) places ≡ ltb places (n + 2)
      some_left n apart h =
          ⊎_elim
          (λ l. rw (lt-ltb places (n + 2) (omega tests)) (eq-eqb (n + 1) places (omega tests)))
          (λ l. rw (le-ltb places (n + 2) (omega tests)) (ne_eqb (n + 1) places (λ e. omega tests)))
          (decided (ltb places (n + 2)))

      second : is_place (lowest_free ws) ≡ true → not (is_place (lowest_free (marked ws (lowest_free ws)))) ≡ is_short ws
      second e =
          let here = ltb-true (lowest_free ws) places e in
          ⊎_elim
          (λ l. full-none-free (marked ws (lowest_free ws))
          ∙ rw (marked-count (lowest_free ws) here (omega tests) (lowest-free-clear ws here)) (some_left (count_taken ws) (eqb-false (count_taken ws) places (sym (full-none-free ws) ∙ rw e)) most))
          (λ l. let out : length ws ≤ lowest_free ws / 64 = omega tests in
          ap (λ (x : List ℕ). not (is_place (lowest_free x))) (marked-beyond ws (lowest_free ws) out) ∙ rw (e, le-ltb places (count_taken ws + 2) (omega (arith, few_words (omega arith)))))
          (decided (ltb (lowest_free ws / 64) (length ws)))

      go : (b : Bool) → is_place (lowest_free ws) ≡ b → not (is_place (lowest_free (cond b (marked ws (lowest_free ws)) ws))) ≡ is_short ws
      go true e = second e
      go false e =
          let all = eqb-true (count_taken ws) places (sym (full-none-free ws) ∙ rw e) in
          rw (e, lt-ltb places (count_taken ws + 2) (omega arith))
