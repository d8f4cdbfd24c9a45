-- A list written over the front of another, one entry at a time.
use Rattle.std.specs.Prelude.{ℕ, zero, suc, ◌+◌, ◌<◌, ◌≡◌, refl, List, [], ◌∷◌, ◌++◌, map, length, get_or, set, take, drop}
use Rattle.std.proofs.Common.{sym, ap, ◌∙◌, add-one, arith, length-take-le, drop-cons, take-suc, take_all}
use Rattle.std.proofs.lemmas.List.{set_at}
use Rattle.std.proofs.Math.Seq.{append_snoc}

module _ (l old : List ℕ) (i : ℕ) (il : i < length l) (io : i < length old) where
  pub over-write : set (take i l ++ drop i old) i (get_or l i 0) ≡ take (i + 1) l ++ drop (i + 1) old
  over-write =
      rw (drop-cons old i 0 io, add-one)
      (set_at (take i l) (get_or old i 0) (drop (suc i) old) (get_or l i 0) i (length-take-le i l (omega arith))
      ∙ sym (ap (λ t. t ++ drop (suc i) old) (take-suc l i 0 il) ∙ append_snoc (take i l) _ (drop (suc i) old)))

pub over-all : (l old : List ℕ) (i : ℕ) → i ≡ length l → take i l ++ drop i old ≡ l ++ drop (length l) old
over-all l old i e = rw e (ap (λ t. t ++ drop (length l) old) (take_all (length l) l (omega arith)))

pub get_d_map : (f : ℕ → ℕ) (l : List ℕ) (i : ℕ) → i < length l → get_or (map f l) i 0 ≡ f (get_or l i 0)
get_d_map f [] i h = absurd (omega arith)
get_d_map f (x ∷ l) zero h = refl
get_d_map f (x ∷ l) (suc i) h = get_d_map f l i (omega arith)
