-- Laws of the telling: one record at a time, as many turns as it needs, and what it never exceeds.
use Rattle.std.specs.Prelude.{ℕ, zero, suc, ◌+◌, ◌-◌, ◌≤◌, ◌<◌, Bool, true, false, cond, not, ◌&&◌, ◌≡◌, refl, List, [], leb, ltb, length}
use Rattle.std.proofs.Common.{sym, ◌∙◌, ap, subst, length-append, arith, leb-true, leb-false, ltb-false}
use Rattle.session.specs.declared.{Session.Session}
use Rattle.session.specs.Sound.{Sound}
use Rattle.records.specs.declared.{kinds.Record.Record}
use Rattle.records.specs.Walk.{Read, record_at}
use Rattle.records.specs.Reads.{read-end}
use Rattle.records.specs.Ends.{next_place}
use Rattle.records.specs.Pieces.{needs_more}
use Rattle.lines.specs.Lengths.{fault-length, end-length}
use Rattle.lines.specs.Line.{fault_line, end_line}
use Rattle.transcript.specs.declared.{Stop.Stop, Next.Next, Telling.Telling}
use Rattle.transcript.specs.Transcript.{step, step_lines}
use Rattle.transcript.specs.Steps.{record_room, step_room, step-sound}
use Rattle.transcript.specs.Told.{next_of, next_told, Standing, behind, Halt, halt, go_tell, tell_from, records_told, last_of, last_room, faults, told}

not-past : (bytes : List ℕ) (place : ℕ) → record_at bytes place ≡ Read.Fault → place < length bytes
not-past bytes place e = go (leb (length bytes) place) refl where
  go : (a : Bool) → leb (length bytes) place ≡ a → place < length bytes
  go false p = leb-false _ _ p
  go true p =
      let end = read-end bytes place (leb-true _ _ p) in
      let z : ◌≡◌ {A = ℕ} 0 1 = cc in
      absurd (omega arith)

-- what holds of what is next: there is room for the lines that it stands for, a record brings the place further, and a fault stands before the end
abbrev Fronts : List ℕ → ℕ → ℕ → Next → Type 0
Fronts bytes place room (Next.Record r next) = (place < next) × (next ≤ length bytes) × (record_room ≤ room) × (record_at bytes place ≡ Read.Record r next)
Fronts bytes place room (Next.Stop why) = (place ≤ length bytes → place + faults why ≤ length bytes) × (last_room why ≤ room)

fronts : (bytes : List ℕ) (place : ℕ) (ended : Bool) (room : ℕ) → Fronts bytes place room (next_told bytes place ended room)
fronts bytes place ended room = go (ltb room record_room) (not ended && needs_more bytes place) (record_at bytes place) refl refl where
  go : (a b : Bool) (read : Read) → ltb room record_room ≡ a → record_at bytes place ≡ read
      → Fronts bytes place room (cond a (Next.Stop Stop.Full) (cond b (Next.Stop Stop.Waits) (next_of read)))
  go true b read p q = (λ h. omega arith, omega arith)
  go false true read p q = (λ h. omega arith, omega arith)
  go false false Read.Fault p q = (λ h. omega (arith, not-past bytes place q), omega (arith, ltb-false room record_room p))
  go false false Read.End p q = (λ h. omega arith, omega (arith, ltb-false room record_room p))
  go false false (Read.Record r next) p q = let n = next_place bytes place q in (n.0, n.1, ltb-false room record_room p, q)

-- a record is next: it brings the place further, not behind the end, and there was room
pub next-record : (bytes : List ℕ) (place : ℕ) (ended : Bool) (room : ℕ) {r : Record} {next : ℕ} → next_told bytes place ended room ≡ Next.Record r next
    → (place < next) × (next ≤ length bytes) × (record_room ≤ room) × (record_at bytes place ≡ Read.Record r next)
next-record bytes place ended room e = subst (λ (f : Next). Fronts bytes place room f) e (fronts bytes place ended room)

-- none is next: there is room for the last lines, and a fault stands before the end
pub next-stop : (bytes : List ℕ) (place : ℕ) (ended : Bool) (room : ℕ) {why : Stop} → next_told bytes place ended room ≡ Next.Stop why → place ≤ length bytes
    → (place + faults why ≤ length bytes) × (last_room why ≤ room)
next-stop bytes place ended room {why} e h = let f = subst (λ (f : Next). Fronts bytes place room f) e (fronts bytes place ended room) in (f.0 h, f.1)

pub tell-stop : (n room : ℕ) (ended : Bool) (bytes : List ℕ) (t : Standing) {why : Stop} → next_told bytes t.place ended (room - length t.text) ≡ Next.Stop why
    → tell_from (suc n) room ended bytes t ≡ halt t why
unfolding tell_from
tell-stop n room ended bytes t e = ap (λ (f : Next). go_tell f t (tell_from n room ended bytes)) e

tell-turn : (n room : ℕ) (ended : Bool) (bytes : List ℕ) (t : Standing) {r : Record} {next : ℕ} → next_told bytes t.place ended (room - length t.text) ≡ Next.Record r next
    → tell_from (suc n) room ended bytes t ≡ tell_from n room ended bytes (behind t r next)
unfolding tell_from
tell-turn n room ended bytes t e = ap (λ (f : Next). go_tell f t (tell_from n room ended bytes)) e

-- where as many turns are allowed as bytes are left and one more, further turns change nothing
tell-suffices : (n more room : ℕ) (ended : Bool) (bytes : List ℕ) (t : Standing) → length bytes ≤ t.place + n
    → tell_from (more + suc n) room ended bytes t ≡ tell_from (suc n) room ended bytes t
tell-suffices zero more room ended bytes t h = rw e (go (next_told bytes t.place ended (room - length t.text)) refl) where
  e : more + 1 ≡ suc more
  e = omega arith

  go : (f : Next) → next_told bytes t.place ended (room - length t.text) ≡ f → tell_from (suc more) room ended bytes t ≡ tell_from 1 room ended bytes t
  go (Next.Stop why) q = tell-stop more room ended bytes t q ∙ sym (tell-stop 0 room ended bytes t q)
  go (Next.Record r next) q = let b = next-record bytes t.place ended (room - length t.text) q in absurd (omega arith)
tell-suffices (suc n) more room ended bytes t h = rw e (go (λ u k. tell-suffices n more room ended bytes u k) (next_told bytes t.place ended (room - length t.text)) refl) where
  e : more + suc (suc n) ≡ suc (more + suc n)
  e = omega arith

  go : ((u : Standing) → length bytes ≤ u.place + n → tell_from (more + suc n) room ended bytes u ≡ tell_from (suc n) room ended bytes u)
      → (f : Next) → next_told bytes t.place ended (room - length t.text) ≡ f
      → tell_from (suc (more + suc n)) room ended bytes t ≡ tell_from (suc (suc n)) room ended bytes t
  go later (Next.Stop why) q = tell-stop (more + suc n) room ended bytes t q ∙ sym (tell-stop (suc n) room ended bytes t q)
  go later (Next.Record r next) q =
      let b = next-record bytes t.place ended (room - length t.text) q in
      tell-turn (more + suc n) room ended bytes t q ∙ later (behind t r next) (omega arith) ∙ sym (tell-turn (suc n) room ended bytes t q)

-- one record, with as many turns allowed as bytes are left
pub tell-record : (room : ℕ) (ended : Bool) (bytes : List ℕ) (t : Standing) {r : Record} {next : ℕ} → next_told bytes t.place ended (room - length t.text) ≡ Next.Record r next
    → tell_from (suc (length bytes - t.place)) room ended bytes t ≡ tell_from (suc (length bytes - next)) room ended bytes (behind t r next)
tell-record room ended bytes t {r} {next} e =
    let h = next-record bytes t.place ended (room - length t.text) e in
    let more : ℕ = next - t.place - 1 in
    let turns : length bytes - t.place ≡ more + suc (length bytes - next) = omega arith in
    tell-turn (length bytes - t.place) room ended bytes t e
    ∙ ap (λ (n : ℕ). tell_from n room ended bytes (behind t r next)) turns
    ∙ tell-suffices (length bytes - next) more room ended bytes (behind t r next) (omega arith)

-- the induction over a telling: what holds where it stands is kept by every record, and gives what holds where it stops
pub tell-ends : (room : ℕ) (ended : Bool) (bytes : List ℕ) (Going : Standing → Type 0) (Done : Halt → Type 0)
    → ((t : Standing) (r : Record) (next : ℕ) → Going t → next_told bytes t.place ended (room - length t.text) ≡ Next.Record r next → Going (behind t r next))
    → ((t : Standing) (why : Stop) → Going t → next_told bytes t.place ended (room - length t.text) ≡ Next.Stop why → Done (halt t why))
    → ((t : Standing) → Going t → Done (halt t Stop.Full)) → (n : ℕ) (t : Standing) → Going t → Done (tell_from n room ended bytes t)
unfolding tell_from
tell-ends room ended bytes Going Done one stop out zero t g = out t g
tell-ends room ended bytes Going Done one stop out (suc n) t g =
    go (λ u k. tell-ends room ended bytes Going Done one stop out n u k) (next_told bytes t.place ended (room - length t.text)) refl
  where
    go : ((u : Standing) → Going u → Done (tell_from n room ended bytes u)) → (f : Next) → next_told bytes t.place ended (room - length t.text) ≡ f
        → Done (go_tell f t (tell_from n room ended bytes))
    go later (Next.Stop why) q = stop t why g q
    go later (Next.Record r next) q = later (behind t r next) (one t r next g q)

-- what holds of every telling of a sound session
pub record Within (room : ℕ) (bytes : List ℕ) (answered : ℕ) (h : Halt) : Type 0 where
  pub place-within : h.standing.place ≤ length bytes
  pub counted : h.standing.answered + faults h.stop ≤ answered + length bytes
  pub room-left : length h.standing.text + last_room h.stop ≤ room
  pub sound : Sound h.standing.session

-- .. and before it stops: no more records than bytes are behind it
record Going (room : ℕ) (bytes : List ℕ) (answered : ℕ) (t : Standing) : Type 0 where
  place-within : t.place ≤ length bytes
  counted : t.answered ≤ answered + t.place
  room-left : length t.text ≤ room
  sound : Sound t.session

pub told-within : (room : ℕ) (ended : Bool) (bytes : List ℕ) (s : Session) (answered : ℕ) → Sound s → Within room bytes answered (records_told room ended bytes s answered)
told-within room ended bytes s answered sound =
    tell-ends room ended bytes (Going room bytes answered) (Within room bytes answered) one stop out (suc (length bytes)) (record { session = s; answered = answered; place = 0; text = [] })
    (record { place-within = omega arith; counted = omega arith; room-left = omega arith; sound = sound })
  where
    one : (t : Standing) (r : Record) (next : ℕ) → Going room bytes answered t → next_told bytes t.place ended (room - length t.text) ≡ Next.Record r next
        → Going room bytes answered (behind t r next)
    one t r next g e =
        let b = next-record bytes t.place ended (room - length t.text) e in
        record {
          place-within = b.1;
          counted = omega arith;
          room-left = omega (arith, length-append t.text (step_lines (suc t.answered) (step t.session r)), step_room (suc t.answered) t.session r);
          sound = step-sound t.session r g.sound;
        }

    stop : (t : Standing) (why : Stop) → Going room bytes answered t → next_told bytes t.place ended (room - length t.text) ≡ Next.Stop why
        → Within room bytes answered (halt t why)
    stop t why g e =
        let b = next-stop bytes t.place ended (room - length t.text) e g.place-within in
        record { place-within = g.place-within; counted = omega arith; room-left = omega arith; sound = g.sound }

    out : (t : Standing) → Going room bytes answered t → Within room bytes answered (halt t Stop.Full)
    out t g = record { place-within = g.place-within; counted = omega arith; room-left = omega arith; sound = g.sound }

last-room : (answered : ℕ) (why : Stop) → length (last_of answered why) ≤ last_room why
last-room answered Stop.Full = omega arith
last-room answered Stop.Waits = omega arith
last-room answered Stop.Fault = omega (arith, length-append (fault_line (suc answered)) (end_line answered), fault-length (suc answered), end-length answered)
last-room answered Stop.End = omega (arith, end-length answered)

-- of what the call returns
pub record Returned (bytes : List ℕ) (answered : ℕ) (out : List ℕ) (r : Telling) : Type 0 where
  pub place-within : r.place ≤ length bytes
  pub counted : r.answered ≤ answered + length bytes
  pub at-within : r.at ≤ length out
  pub sound : Sound r.session

pub told-returned : (s : Session) (answered : ℕ) (bytes : List ℕ) (ended : Bool) (out : List ℕ) → Sound s → Returned bytes answered out (told s answered bytes ended out).returned
unfolding told
told-returned s answered bytes ended out sound =
    let h = records_told (length out) ended bytes s answered in
    let w : Within (length out) bytes answered h = told-within (length out) ended bytes s answered sound in
    record {
      place-within = w.place-within;
      counted = omega arith;
      at-within = omega (arith, length-append h.standing.text (last_of h.standing.answered h.stop), last-room h.standing.answered h.stop);
      sound = w.sound;
    }
