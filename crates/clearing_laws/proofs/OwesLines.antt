-- Who owes whom, in lines: what is printed behind the session's own is worked out from the list of all trades so far (02 K5).
use Rattle.std.specs.Prelude.{ℕ, ◌≤◌, ◌<◌, ◌≡◌, refl, List, [], ◌∷◌, ◌++◌, map, get_or}
use Rattle.std.proofs.Common.{inl, inr, sym, ap, subst, ◌∙◌, arith}
use Rattle.squares.specs.Square.{square_members, square_of}
use Rattle.desk.specs.declared.{Desk.Desk}
use Rattle.desk.specs.Desk.{fresh_desk, known}
use Rattle.desk.specs.Sound.{SoundDesk}
use Rattle.records.specs.declared.{kinds.Record.Record}
use Rattle.desk_steps.specs.Steps.{desk_step, desk_after, Reached}
use Rattle.owing.specs.Owing.{owes_line, first_texts, row_lines, square_lines, total_line, owed_lines}
use Rattle.owing.specs.Texts.{first-same, first_stops, first_of}
use Rattle.demands.specs.Sequences.{Call}
use Rattle.clearing_laws.specs.Runs.{after, run, Deal, deals_so_far, owed, member_at, cell_at, traded_so_far}
use Rattle.clearing_laws.specs.Owed.{Owes}
use Rattle.clearing_laws.proofs.Owed.{who-owes-whom, all-cells-together, reached-is-sound}
use Rattle.clearing_laws.specs.OwesLines.{bought_by, call_of, owed_among}

silent : (buyer seller quantity : ℕ) → quantity ≡ 0 → owes_line buyer seller quantity ≡ []
silent buyer seller quantity e = rw e

module _ (d : Desk) (sound : SoundDesk d) (deals : List Deal) (o : Owes d deals) where
  abbrev cell_line : ℕ → ℕ → List ℕ
  cell_line i j = owes_line (member_at d i) (member_at d j) (cell_at d i j)

  -- a member's row
  row-owed : (i : ℕ) → i < d.count → first_texts (cell_line i) square_members ≡ bought_by (known d) deals (member_at d i)
  row-owed i h =
      first_stops (cell_line i) d.count square_members sound.few
      (λ j a b. silent (member_at d i) (member_at d j) (cell_at d i j) (o.of-no-two i j (omega (arith, sound.few)) b (inr a)))
      ∙ first-same (cell_line i) (λ j. owes_line (member_at d i) (member_at d j) (owed (member_at d i) (member_at d j) deals)) d.count
      (λ j b. ap (owes_line (member_at d i) (member_at d j)) (o.of_two i j h b))
      ∙ first_of (λ seller. owes_line (member_at d i) seller (owed (member_at d i) seller deals)) d.members d.count (omega (arith, sound.few, sound.members-long))

  -- a row of nobody's
  row-silent : (i : ℕ) → d.count ≤ i → i < square_members → first_texts (cell_line i) square_members ≡ []
  unfolding first_texts
  row-silent i h b =
      first_stops (cell_line i) 0 square_members (omega arith)
      (λ j a c. silent (member_at d i) (member_at d j) (cell_at d i j) (o.of-no-two i j b c (inl h)))

  rows-owed : square_lines d.members (square_of d.totals) ≡ owed_among (known d) deals
  rows-owed =
      first_stops (λ i. row_lines d.members (member_at d i) (get_or (square_of d.totals) i [])) d.count square_members sound.few row-silent
      ∙ first-same (λ i. row_lines d.members (member_at d i) (get_or (square_of d.totals) i [])) (λ i. bought_by (known d) deals (member_at d i)) d.count row-owed
      ∙ first_of (bought_by (known d) deals) d.members d.count (omega (arith, sound.few, sound.members-long))

-- K5a and K5b in lines. After every run of calls the lines are those of the members in the order of their first accepted entry, each quantity worked
-- out from the list of all trades so far, and the total is the sum of the quantities of all auctions of outcome 1.
pub lines-owed : (cs : List Call) → owed_lines (run fresh_desk cs) ≡ owed_among (known (run fresh_desk cs)) (deals_so_far fresh_desk cs) ++ total_line (traded_so_far fresh_desk cs)
unfolding owed_lines
lines-owed cs = rw (rows-owed (run fresh_desk cs) (reached-is-sound cs) (deals_so_far fresh_desk cs) (who-owes-whom cs), all-cells-together cs)

one-record : (d : Desk) (r : Record) → (desk_step d r).desk ≡ after d (call_of r)
one-record d (Record.Start p) = refl
one-record d (Record.Order e) = refl
one-record d (Record.Delete x) = refl
one-record d (Record.Auction which) = refl
one-record d (Record.Quote e) = refl
one-record d (Record.Bands p) = refl

records-run : (d : Desk) (rs : List Record) → desk_after d rs ≡ run d (map call_of rs)
records-run d [] = refl
records-run d (r ∷ rs) = records-run (desk_step d r).desk rs ∙ ap (λ (e : Desk). run e (map call_of rs)) (one-record d r)

-- .. so of every desk that records lead to, as the clearing program's does (`Reached`)
pub records-owed : (d : Desk) (h : Reached d) → let cs = map call_of h.records in
    owed_lines d ≡ owed_among (known d) (deals_so_far fresh_desk cs) ++ total_line (traded_so_far fresh_desk cs)
records-owed d h =
    let cs = map call_of h.records in
    let same : run fresh_desk cs ≡ d = sym (records-run fresh_desk h.records) ∙ h.leads in
    subst (λ (e : Desk). owed_lines e ≡ owed_among (known e) (deals_so_far fresh_desk cs) ++ total_line (traded_so_far fresh_desk cs)) same (lines-owed cs)
