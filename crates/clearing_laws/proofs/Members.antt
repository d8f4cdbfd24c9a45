-- The rows of the square (02 K5): the members in the order of their first accepted order or quote.
use Rattle.std.specs.Prelude.{ℕ, zero, suc, ◌≢◌, ◌≡◌, List, [], ◌∷◌, ◌++◌}
use Rattle.std.proofs.Math.Path.{refl}
use Rattle.std.proofs.Common.{◌∙◌}
use Rattle.terms.specs.declared.orders.{Entry.Entry}
use Rattle.terms.specs.declared.quote_terms.{QuoteEntry.QuoteEntry}
use Rattle.squares.specs.Square.{joined}
use Rattle.refusals.specs.Checks.{answered-cases}
use Rattle.refusals.specs.Exactly.{clear}
use Rattle.entries.specs.declared.{Entered.Entered}
use Rattle.quotation.specs.declared.{Quoted.Quoted}
use Rattle.desk.specs.declared.{Desk.Desk}
use Rattle.desk.specs.Desk.{fresh_desk, known}
use Rattle.desk.specs.Calls.{order_checks, order_refused, order_done, entered, quote_checks, quote_refused, quote_done, quoted}
use Rattle.desk.specs.Sound.{SoundDesk}
use Rattle.desk.specs.SoundAfter.{fresh-desk-sound, entering-joins}
use Rattle.desk_auction.specs.Auctions.{auctioned}
use Rattle.demands.specs.Sequences.{Act, Call}
use Rattle.clearing_laws.specs.Runs.{after, run}
use Rattle.clearing_laws.proofs.Owed.{handed-on}
use Rattle.clearing_laws.specs.Members.{accepted, accepted_by, accepted_so_far, if_accepted, joined_all}

joined-then : (ms xs ys : List ℕ) → joined_all ms (xs ++ ys) ≡ joined_all (joined_all ms xs) ys
joined-then ms [] ys = refl
joined-then ms (x ∷ xs) ys = joined-then (joined ms x) xs ys

not-accepted : (n m : ℕ) → n ≢ 0 → if_accepted n m ≡ []
not-accepted zero m h = absurd (h refl)
not-accepted (suc n) m h = refl

module _ (d : Desk) (sound : SoundDesk d) where
  by_order : (e : Entry) → known (entered d e).session ≡ joined_all (known d) (accepted_by d (Act.order e))
  unfolding entered
  by_order e =
      answered-cases (order_checks d e) (order_refused d) (order_done d e) (λ (r : Entered Desk). known r.session ≡ joined_all (known d) (if_accepted r.answer e.member))
      (λ n h i. rw (not-accepted n e.member h)) (λ h. entering-joins d sound e.member (clear (order_checks d e) tt h 16) d.session d.rows)

  by-quote : (e : QuoteEntry) → known (quoted d e).session ≡ joined_all (known d) (accepted_by d (Act.quote e))
  unfolding quoted
  by-quote e =
      answered-cases (quote_checks d e) (quote_refused d) (quote_done d e) (λ (r : Quoted Desk). known r.session ≡ joined_all (known d) (if_accepted r.answer e.member))
      (λ n h i. rw (not-accepted n e.member h)) (λ h. entering-joins d sound e.member (clear (quote_checks d e) tt h 16) d.session d.rows)

  by_call : (c : Call) → known (after d c) ≡ joined_all (known d) (accepted d c)
  unfolding auctioned
  by_call (Call.act (Act.start x)) = refl
  by_call (Call.act (Act.order e)) = by_order e
  by_call (Call.act (Act.delete number member)) = refl
  by_call (Call.act (Act.quote e)) = by-quote e
  by_call (Call.act (Act.auction which list)) = refl
  by_call (Call.look l) = refl

by-run : (d : Desk) (cs : List Call) → SoundDesk d → known (run d cs) ≡ joined_all (known d) (accepted_so_far d cs)
by-run d [] sound = refl
by-run d (c ∷ cs) sound =
    by-run (after d c) cs (handed-on d c sound)
    ∙ rw (by_call d sound c, joined-then (known d) (accepted d c) (accepted_so_far (after d c) cs))

-- K5. Over every run of calls the rows are the members whose orders or quotes were accepted, each once, in the order of the first.
pub rows-in-order : (cs : List Call) → known (run fresh_desk cs) ≡ joined_all [] (accepted_so_far fresh_desk cs)
rows-in-order cs = by-run fresh_desk cs fresh-desk-sound
