-- What holds between two turns, and what a turn does: the step of `fed`, of which A7 is proved.
use Rattle.std.specs.Prelude.{ℕ, suc, ◌+◌, ◌-◌, ◌≤◌, ◌<◌, Bool, true, false, ◌⊎◌, ◌≡◌, refl, List, ◌++◌, length, take, drop}
use Rattle.std.proofs.lemmas.Bool.{false≢true}
use Rattle.std.proofs.Common.{inl, inr, sym, subst, ap, ◌∙◌, arith}
use Rattle.session.specs.declared.{Session.Session}
use Rattle.session.specs.Sound.{Sound}
use Rattle.records.specs.Lengths.{length_bound}
use Rattle.transcript.specs.declared.{Stop.Stop, Telling.Telling}
use Rattle.transcript.specs.Told.{TellingLeaves, telling_leaves, told}
use Rattle.transcript.specs.TellLaws.{Returned, told-returned}
use Rattle.transcript.specs.Fed.{is_end, go_feed, fed, Stopped, told-stopped}
use Rattle.feed.specs.declared.{Held.Held}
use Rattle.feed.specs.HeldBytes.{Within, held_in, ReadBehind, held-length}
use Rattle.replay.specs.declared.{Run.Run}

abbrev pub waits_for : Stop → Bool
waits_for Stop.Full = false
waits_for Stop.Waits = true
waits_for Stop.Fault = false
waits_for Stop.End = false

-- no turn follows
abbrev pub is_over : Stop → Bool
is_over Stop.Full = false
is_over Stop.Waits = false
is_over Stop.Fault = true
is_over Stop.End = true

-- the bytes for the next telling: one read more where the last one waits for it, and else the same
abbrev pub Fetching : Bool → ℕ → List ℕ → Bool → List ℕ → Bool → Type 0
Fetching true size before ended after later = ReadBehind size before after later
Fetching false size before ended after later = (after ≡ before) × (later ≡ ended)

abbrev pub Fetched : Stop → ℕ → List ℕ → Bool → List ℕ → Bool → Type 0
Fetched stop size before ended after later = Fetching (waits_for stop) size before ended after later

pub fetched-read : (stop : Stop) (size : ℕ) (before after : List ℕ) (ended later : Bool) → waits_for stop ≡ true → ReadBehind size before after later
    → Fetched stop size before ended after later
fetched-read stop size before after ended later e read = rw e read

pub fetched-none : (stop : Stop) (size : ℕ) (before : List ℕ) (ended : Bool) → waits_for stop ≡ false → Fetched stop size before ended before ended
fetched-none stop size before ended e = rw e (refl, refl)

-- the bytes held leave room for a read where one is waited for
abbrev pub RoomToRead : ℕ → Held → Stop → Type 0
RoomToRead size held stop = waits_for stop ≡ true → held.to - held.from < size

pub record Going (size : ℕ) (run : Run) : Type 0 where
  pub held-within : Within size run.held
  pub sound : Sound run.session
  pub room-to-read : RoomToRead size run.held run.stop

-- A turn: the bytes fetched are told, and the next turn has those behind what was told.
pub record Turned (run : Run) (input out : List ℕ) (next : Run) (later-input later-out : List ℕ) : Type 0 where
  pub bytes : List ℕ
  pub fetched : Fetched run.stop (length input) (held_in run.held input) run.held.ended bytes next.held.ended
  pub telling : Telling
  pub tells : telling_leaves telling later-out ≡ told run.session run.answered bytes next.held.ended out
  pub session : next.session ≡ telling.session
  pub answered : next.answered ≡ telling.answered
  pub same-room : length later-out ≡ length out
  pub left : held_in next.held later-input ≡ drop telling.place bytes
  -- it stops as the telling does, unless what was told could not be printed
  pub stop : (next.stop ≡ telling.stop) ⊎ (next.stop ≡ Stop.End)

-- what a telling of the bytes held returns lies within them and the buffers
pub record Returns (answered from to : ℕ) (input out : List ℕ) (r : Telling) : Type 0 where
  pub text-within : r.at ≤ length out
  pub place-within : from + r.place ≤ to
  pub counted : r.answered ≤ answered + length input
  pub sound : Sound r.session
  pub short : r.stop ≡ Stop.Waits → to - (from + r.place) < length_bound

-- a run waits only where its telling does
pub telling-waits : (stop why : Stop) → (stop ≡ why) ⊎ (stop ≡ Stop.End) → waits_for stop ≡ true → why ≡ Stop.Waits
telling-waits stop why (inr e) w = absurd (false≢true (sym (ap waits_for e) ∙ w))
telling-waits stop why (inl e) w = sym e ∙ go stop w where
  go : (stop : Stop) → waits_for stop ≡ true → stop ≡ Stop.Waits
  go Stop.Full w = absurd (false≢true w)
  go Stop.Waits w = refl
  go Stop.Fault w = absurd (false≢true w)
  go Stop.End w = absurd (false≢true w)

-- what a telling returned: where it stands, and by why it stopped
module _ (s : Session) (answered : ℕ) (bytes out : List ℕ) (ended : Bool) {r : Telling} {out' : List ℕ} (e : telling_leaves r out' ≡ told s answered bytes ended out) where
  pub returned-by : Sound s → Returned bytes answered out r
  returned-by sound = subst (λ (l : TellingLeaves). Returned bytes answered out l.returned) (sym e) (told-returned s answered bytes ended out sound)

  pub stopped_by : Stopped (length out) ended bytes r
  stopped_by = subst (λ (l : TellingLeaves). Stopped (length out) ended bytes l.returned) (sym e) (told-stopped s answered bytes ended out)

pub told-returns : (s : Session) (answered from to : ℕ) (input out : List ℕ) (ended : Bool) → Sound s → (from ≤ to) × (to ≤ length input) → {r : Telling} {out' : List ℕ}
    → telling_leaves r out' ≡ told s answered (take (to - from) (drop from input)) ended out → Returns answered from to input out r
told-returns s answered from to input out ended sound within {r} e = record {
  text-within = returned.at-within;
  place-within = omega (arith, size, returned.place-within, within.0);
  counted = omega (arith, size, returned.counted, within.1);
  sound = returned.sound;
  short = λ w. omega (arith, size, returned.place-within, within.0, (stopped_by s answered held out ended e).short w);
}
  where
    held : List ℕ
    held = take (to - from) (drop from input)

    returned : Returned held answered out r
    returned = returned-by s answered held out ended e sound

    size : length (take (to - from) (drop from input)) ≡ to - from
    size = held-length from to input within.0 within.1

-- A7: a turn prints and leaves what a turn of `fed` does, where the input has ended just when no read is to come.
pub turn-is-fed : (run next : Run) (input out later-input later-out : List ℕ) (t : Turned run input out next later-input later-out) (reads : List (List ℕ)) → is_end reads ≡ next.held.ended → (turns : ℕ)
    → fed (suc turns) out run.session run.answered t.bytes reads
    ≡ take t.telling.at later-out ++ go_feed t.telling.stop (fed turns later-out next.session next.answered) (held_in next.held later-input) reads
unfolding fed
turn-is-fed run next input out later-input later-out t reads e turns = rw (e, ← t.tells, t.session, t.answered, t.left)
