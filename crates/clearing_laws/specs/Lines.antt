-- The lines of a session that keeps the square (02 K5): the plain session's own, as long as 16 is not answered (K5c).
use Rattle.std.specs.Prelude.{ℕ, suc, Bool, ◌≢◌, ◌≡◌, refl, List, [], ◌∷◌, ◌++◌}
use Rattle.std.proofs.Common.{ap, ◌∙◌}
use Rattle.session.specs.declared.{Session.Session}
use Rattle.records.specs.declared.{kinds.Record.Record}
use Rattle.transcript.specs.Transcript.{Step, step, step_lines, lines_from}
use Rattle.desk.specs.declared.{Desk.Desk}
use Rattle.desk_auction.specs.Auctions.{auctioned}
use Rattle.desk_steps.specs.Steps.{desk_step, desk_lines_from}
use Rattle.demands.specs.Bands.{in_bands}
use Rattle.clearing_laws.specs.Plain.{as_plain}

-- no record is answered 16
abbrev pub NeverSixteenIn : Desk → List Record → Type 0
NeverSixteenIn d [] = Unit {0}
NeverSixteenIn d (r ∷ rs) = ((desk_step d r).told.line.answer ≢ 16) × NeverSixteenIn (desk_step d r).desk rs

-- K5c. Where a record is not answered 16, what is told of it is what the plain session tells: the session after it, its line and its trades.
pub step-plain : (d : Desk) (r : Record) → (desk_step d r).told.line.answer ≢ 16 → (desk_step d r).told ≡ step d.session r
unfolding auctioned
step-plain d (Record.Start p) h = refl
step-plain d (Record.Order e) h = let (answer, number, session) = (as_plain d).order e h in rw (answer, number, session)
step-plain d (Record.Delete x) h = refl
step-plain d (Record.Auction which) h = refl
step-plain d (Record.Bands p) h = refl
step-plain d (Record.Quote e) h = let (answer, bid, ask, session) = (as_plain d).quote e h in rw (answer, bid, ask, session)

-- the session that is told is the one inside
inside : (d : Desk) (r : Record) → (desk_step d r).desk.session ≡ (desk_step d r).told.session
inside d (Record.Start p) = refl
inside d (Record.Order e) = refl
inside d (Record.Delete x) = refl
inside d (Record.Auction which) = refl
inside d (Record.Quote e) = refl
inside d (Record.Bands p) = refl

-- K5c. .. so that the lines of records of which none is answered 16 are the plain session's.
pub lines-plain : (d : Desk) (count : ℕ) (rs : List Record) (faulty : Bool) → NeverSixteenIn d rs → desk_lines_from d count rs faulty ≡ lines_from d.session count rs faulty
unfolding desk_lines_from lines_from
lines-plain d count [] faulty h = refl
lines-plain d count (r ∷ rs) faulty (here, later) =
    let same = step-plain d r here in
    ap (λ (text : List ℕ). step_lines (suc count) (desk_step d r).told ++ text)
    (lines-plain (desk_step d r).desk (suc count) rs faulty later ∙ ap (λ (s : Session). lines_from s (suc count) rs faulty) (inside d r))
    ∙ ap (λ (t : Step). step_lines (suc count) t ++ lines_from t.session (suc count) rs faulty) same

-- K6a in a session that keeps the square: a record of kind 1 and the one of kind 6 with the one row do the same, to the desk and in lines.
pub desk-one-row : (d : Desk) (r : Record) → desk_step d (in_bands r) ≡ desk_step d r
desk-one-row d (Record.Start x) = refl
desk-one-row d (Record.Order e) = refl
desk-one-row d (Record.Delete x) = refl
desk-one-row d (Record.Auction which) = refl
desk-one-row d (Record.Quote e) = refl
desk-one-row d (Record.Bands x) = refl
