-- Pairing turn by turn: the trades done so far, and those still to come from where the two fronts are.
use Rattle.std.specs.Prelude.{ℕ, suc, ◌+◌, ◌-◌, ◌*◌, ◌≤◌, ◌<◌, min, Bool, true, false, cond, ◌&&◌, ◌≡◌, refl, List, [], ◌∷◌, ◌++◌, eqb, leb, ltb, length, get_or, set, drop}
use Rattle.std.proofs.Common.{⊎_elim, sym, ap, ◌∙◌, append-nil, add-one, arith, ltb-false, le-leb, eqb-true, drop_of_length-le, length-append, get_or-drop}
use Rattle.std.proofs.lemmas.Bool.{lt-leb, eqb-false}
use Rattle.std.proofs.Math.Seq.{drop-cons, append_snoc}
use Rattle.std.proofs.lemmas.List.{set-get_or}
use Rattle.lists.specs.Tests.{tests, decided, and_both}
use Rattle.trades.specs.declared.{Trade.Trade, pairing.Front.Front}
use Rattle.trades.specs.OverShares.{advanced_to, share_pairs}
use Rattle.trades.proofs.OverShares.{no-bought, no-sold}
use Rattle.trades.specs.Written.{quadruples, trades_written, wrote}
use Rattle.trades.proofs.Written.{written_next}
use Rattle.trades.specs.Turns.{Turn, shares_from}

-- .. that nothing has been traded of
untouched : (qs : List ℕ) (i : ℕ) → set (drop i qs) 0 (get_or qs i 0) ≡ drop i qs
untouched qs i =
    let e : i + 0 ≡ i = omega arith in
    let first : get_or (drop i qs) 0 0 ≡ get_or qs i 0 = get_or-drop i qs 0 0 ∙ ap (λ j. get_or qs j 0) e in
    ap (λ x. set (drop i qs) 0 x) (sym first) ∙ set-get_or (drop i qs) 0 0

turn : (ns qs : List ℕ) (q : ℕ) (f : Front) → f.at < length qs → length qs ≤ length ns → q ≤ f.left → Turn ns qs q f (advanced_to qs q f)
turn ns qs q f h k enough = go (eqb q f.left) refl
  where
    go : (b : Bool) → eqb q f.left ≡ b → Turn ns qs q f (cond b (record { at = f.at + 1; left = get_or qs (f.at + 1) 0 }) (record { at = f.at; left = f.left - q }))
    go true e =
        let all : leb f.left q ≡ true = le-leb f.left q (omega (arith, eqb-true q f.left e)) in
        record {
          shares = rw all (untouched qs (f.at + 1) ∙ rw add-one);
          numbers = rw (all, add-one);
          least = omega arith;
          most = omega arith;
          moves = λ l. omega arith;
        }
    go false e =
        let less : q < f.left = omega (arith, eqb-false q f.left e) in
        let not-all : leb f.left q ≡ false = lt-leb f.left q less in
        record {
          shares = rw (not-all, drop-cons qs f.at 0 h);
          numbers = rw (not-all, drop-cons ns f.at 0 (omega arith));
          least = omega arith;
          most = omega arith;
          moves = λ l. absurd (omega arith);
        }

module _ (bn bq sn sq : List ℕ) where
  -- at most `turns` trades from two fronts on
  abbrev pairs_from : ℕ → Front → Front → List Trade
  pairs_from turns b s = share_pairs turns (drop b.at bn) (shares_from bq b) (drop s.at sn) (shares_from sq s)

  -- no more where a queue is at its end
  none_from : (turns : ℕ) (b s : Front) → (ltb b.at (length bq) && ltb s.at (length sq)) ≡ false → pairs_from turns b s ≡ []
  none_from turns b s g = go (ltb b.at (length bq)) refl g
    where
      go : (c : Bool) → ltb b.at (length bq) ≡ c → (c && ltb s.at (length sq)) ≡ false → pairs_from turns b s ≡ []
      go true e d = rw (drop_of_length-le sq (ltb-false s.at (length sq) d)) (no-sold turns (drop b.at bn) (shares_from bq b) (drop s.at sn))
      go false e d = rw (drop_of_length-le bq (ltb-false b.at (length bq) e)) (no-bought turns (drop b.at bn) (drop s.at sn) (shares_from sq s))

  -- else the trade of the two fronts, and those from the next fronts on
  one_from : (turns : ℕ) (b s b' s' : Front) (q : ℕ) → b.at < length bq → s.at < length sq → length bq ≤ length bn → length sq ≤ length sn
      → q ≡ min b.left s.left → Turn bn bq q b b' → Turn sn sq q s s'
      → pairs_from (suc turns) b s ≡ record { buy = get_or bn b.at 0; sell = get_or sn s.at 0; quantity = q } ∷ pairs_from turns b' s'
  unfolding share_pairs
  one_from turns b s b' s' q hb hs kb ks e tb ts =
      rw (tb.shares, tb.numbers, ts.shares, ts.numbers, drop-cons bn b.at 0 (omega arith), drop-cons sn s.at 0 (omega arith), drop-cons bq b.at 0 hb, drop-cons sq s.at 0 hs, e)

  abbrev all_pairs : List Trade
  all_pairs = share_pairs (length bq + length sq) bn bq sn sq

  module _ (price : ℕ) (old : List ℕ) where
    -- after k turns: the trades done, in a list as long as the old one and, where it has room for them, written to it
    pub record State (list : List ℕ) (b s : Front) (k : ℕ) : Type 0 where
      pub done : List Trade
      pub count : length done ≡ k
      pub long : length list ≡ length old
      buy-end : b.at ≤ length bq
      sell-end : s.at ≤ length sq
      pub turns : k ≤ b.at + s.at
      pub whole : done ++ pairs_from (length bq + length sq - k) b s ≡ all_pairs
      pub holds : 4 * k ≤ length old → list ≡ trades_written price done old

    pub state-start : State old (record { at = 0; left = get_or bq 0 0 }) (record { at = 0; left = get_or sq 0 0 }) 0
    state-start = record {
      done = [];
      count = refl;
      long = refl;
      buy-end = omega arith;
      sell-end = omega arith;
      turns = omega arith;
      whole = let e : length bq + length sq - 0 ≡ length bq + length sq = omega arith in rw (untouched bq 0, untouched sq 0, e);
      holds = λ h. refl;
    }

    module _ (list : List ℕ) (b s : Front) (k : ℕ) (st : State list b s k) where
      pub state-end : (ltb b.at (length bq) && ltb s.at (length sq)) ≡ false → (k ≡ length all_pairs) × (4 * k ≤ length old → list ≡ quadruples price all_pairs ++ drop (4 * k) old)
      state-end g =
          let all : st.done ≡ all_pairs = sym (append-nil st.done) ∙ ap (λ (l : List Trade). st.done ++ l) (sym (none_from (length bq + length sq - k) b s g)) ∙ st.whole in
          let e : length all_pairs ≡ k = ap length (sym all) ∙ st.count in
          (sym e, λ h. st.holds h ∙ rw (all, e))

      module _ (going : (ltb b.at (length bq) && ltb s.at (length sq)) ≡ true) where
        pub state-on : (b.at < length bq) × (s.at < length sq) × (k < length bq + length sq)
        state-on =
            let (x, y) = and_both (ltb b.at (length bq)) (ltb s.at (length sq)) (rw going tt) in
            let i : b.at < length bq = omega tests in
            let j : s.at < length sq = omega tests in
            (i, j, omega (arith, i, j, st.turns))

        module _ (numbers-b : length bq ≤ length bn) (numbers-s : length sq ≤ length sn) where
          pub state-step : (x y q : ℕ) (b' s' : Front) (new : List ℕ) → x ≡ get_or bn b.at 0 → y ≡ get_or sn s.at 0 → q ≡ min b.left s.left
              → b' ≡ advanced_to bq q b → s' ≡ advanced_to sq q s → new ≡ wrote k (x ∷ y ∷ q ∷ price ∷ []) list → length new ≡ length list → State new b' s' (k + 1)
          state-step x y q b' s' new ex ey eq eb es en el =
              let (i, j, fewer) = state-on in
              let t : Trade = record { buy = x; sell = y; quantity = q } in
              let tb : Turn bn bq q b b' = rw eb (turn bn bq q b i numbers-b (omega arith)) in
              let ts : Turn sn sq q s s' = rw es (turn sn sq q s j numbers-s (omega arith)) in
              let left : length bq + length sq - k ≡ suc (length bq + length sq - (k + 1)) = omega arith in
              record {
                done = st.done ++ (t ∷ []);
                count = length-append st.done (t ∷ []) ∙ ap (λ n. n + 1) st.count;
                long = el ∙ st.long;
                buy-end = omega (arith, tb.most);
                sell-end = omega (arith, ts.most);
                turns = ⊎_elim
                    (λ h. omega (arith, st.turns, tb.moves (omega tests), ts.least))
                    (λ h. omega (arith, st.turns, ts.moves (omega tests), tb.least))
                    (decided (leb b.left s.left));
                whole =
                    append_snoc st.done t (pairs_from (length bq + length sq - (k + 1)) b' s')
                    ∙ ap (λ (l : List Trade). st.done ++ l) (rw (ex, ey, left) (sym (one_from (length bq + length sq - (k + 1)) b s b' s' q i j numbers-b numbers-s eq tb ts)))
                    ∙ st.whole;
                holds = λ h. en ∙ ap (wrote k (x ∷ y ∷ q ∷ price ∷ [])) (st.holds (omega arith)) ∙ ap (λ n. wrote n (x ∷ y ∷ q ∷ price ∷ []) (trades_written price st.done old)) (sym st.count) ∙ written_next price st.done t old (omega (arith, st.count));
              }
