-- A record's lines have room, the desk after it is sound, its lines may be written in one or in two, and records lead from a fresh desk on.
use Rattle.std.specs.Prelude.{ℕ, ◌≤◌, ◌≡◌, refl, List, [], ◌∷◌, ◌++◌, length}
use Rattle.std.proofs.Common.{ap, subst, ◌∙◌, append-nil, arith}
use Rattle.lists.specs.Put.{Wrote}
use Rattle.terms.specs.Parameters.{start_with}
use Rattle.records.specs.declared.{kinds.Record.Record}
use Rattle.lines.specs.declared.{Line.Line}
use Rattle.lines.specs.Line.{line_of, trade_lines}
use Rattle.lines.specs.Lengths.{line-length}
use Rattle.transcript.specs.declared.{Stepped.Stepped}
use Rattle.transcript.specs.Transcript.{lent, step_lines}
use Rattle.transcript.specs.Steps as plain
use Rattle.transcript.specs.Steps.{record_room}
use Rattle.desk.specs.declared.{Desk.Desk}
use Rattle.desk.specs.Desk.{fresh_desk}
use Rattle.desk.specs.Sound.{SoundDesk}
use Rattle.desk.specs.SoundAfter.{fresh-desk-sound, started-desk-sound, entered-desk-sound, deleted-desk-sound, quoted-desk-sound}
use Rattle.desk_auction.specs.Auctions.{auctioned}
use Rattle.desk_auction.specs.SoundAfter.{auctioned-desk-sound}
use Rattle.desk_steps.specs.Steps.{DeskStep, desk_step, desk_after, Reached, WroteDesk}

-- a record without trades: its answer's line is all
pub wrote-alone : (place : ℕ) (old new : List ℕ) (at : ℕ) (r : Stepped Desk) (did done : DeskStep) → did ≡ done → did.told.trades ≡ []
    → r.session ≡ did.desk → Wrote old new at r.at (line_of place did.told.line) → WroteDesk place old new at r done
wrote-alone place old new at r did done e none next w = (
  next ∙ ap (λ (x : DeskStep). x.desk) e,
  (plain.wrote-alone place old new at (record { session = did.told.session; at = r.at }) did.told done.told (ap (λ (x : DeskStep). x.told) e) none refl w).1,
)

-- one with trades: the line, and theirs behind it
pub wrote-both : (place : ℕ) (old between new : List ℕ) (at p : ℕ) (r : Stepped Desk) (did done : DeskStep) → at ≤ length old → did ≡ done → r.session ≡ did.desk
    → Wrote old between at p (line_of place did.told.line) → Wrote between new p r.at (trade_lines did.told.trades) → WroteDesk place old new at r done
wrote-both place old between new at p r did done room e next line lines = (
  next ∙ ap (λ (x : DeskStep). x.desk) e,
  (plain.wrote-both place old between new at p (record { session = did.told.session; at = r.at }) did.told done.told room (ap (λ (x : DeskStep). x.told) e) refl line lines).1,
)

alone-room : (place : ℕ) (l : Line) → length (line_of place l ++ trade_lines []) ≤ record_room
alone-room place l = rw (append-nil (line_of place l)) (omega (arith, line-length place l))

pub desk-step-room : (place : ℕ) (d : Desk) (r : Record) → length (step_lines place (desk_step d r).told) ≤ record_room
unfolding auctioned
desk-step-room place d (Record.Start p) = alone-room place (desk_step d (Record.Start p)).told.line
desk-step-room place d (Record.Order e) = alone-room place (desk_step d (Record.Order e)).told.line
desk-step-room place d (Record.Delete x) = alone-room place (desk_step d (Record.Delete x)).told.line
desk-step-room place d (Record.Auction which) = plain.step_room place d.session (Record.Auction which)
desk-step-room place d (Record.Quote e) = alone-room place (desk_step d (Record.Quote e)).told.line
desk-step-room place d (Record.Bands p) = alone-room place (desk_step d (Record.Bands p)).told.line

pub desk-step-sound : (d : Desk) (r : Record) → SoundDesk d → SoundDesk (desk_step d r).desk
desk-step-sound d (Record.Start p) h = started-desk-sound d (start_with p) h
desk-step-sound d (Record.Order e) h = entered-desk-sound d e h
desk-step-sound d (Record.Delete x) h = deleted-desk-sound d x.number x.member h
desk-step-sound d (Record.Auction which) h = auctioned-desk-sound d which lent h
desk-step-sound d (Record.Quote e) h = quoted-desk-sound d e h
desk-step-sound d (Record.Bands p) h = started-desk-sound d p h

-- a fresh desk is reached by none, and one more record leads on; each is sound
pub reached-fresh : Reached fresh_desk
reached-fresh = record { records = []; leads = refl }

after-one-more : (d : Desk) (rs : List Record) (r : Record) → desk_after d (rs ++ (r ∷ [])) ≡ (desk_step (desk_after d rs) r).desk
after-one-more d [] r = refl
after-one-more d (x ∷ rs) r = after-one-more (desk_step d x).desk rs r

pub reached-next : (d : Desk) (r : Record) → Reached d → Reached (desk_step d r).desk
reached-next d r h = record {
  records = h.records ++ (r ∷ []);
  leads = after-one-more fresh_desk h.records r ∙ ap (λ (e : Desk). (desk_step e r).desk) h.leads;
}

after-sound : (d : Desk) (rs : List Record) → SoundDesk d → SoundDesk (desk_after d rs)
after-sound d [] h = h
after-sound d (r ∷ rs) h = after-sound (desk_step d r).desk rs (desk-step-sound d r h)

pub reached-sound : (d : Desk) → Reached d → SoundDesk d
reached-sound d h = subst SoundDesk h.leads (after-sound fresh_desk h.records fresh-desk-sound)
