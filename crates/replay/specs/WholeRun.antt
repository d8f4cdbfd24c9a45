-- The program's run: its turns one after the other, and that together they print what the whole input prints (A7).
use Prim.Native.Nat.{ℕ, zero, suc, ◌+◌, ◌-◌, ◌^◌, ◌≤◌, ◌<◌}
use Rattle.std.specs.Prelude.{Bool, true, ◌⊎◌, ◌≡◌, refl, take}
use Rattle.std.proofs.Math.Bool.{false}
use Rattle.std.proofs.Common.{true≢false, inl, inr, sym, ◌∙◌, arith, length-drop}
use Rattle.std.proofs.lemmas.Bool.{false≢true}
use Rattle.std.proofs.Math.Path.{ap}
use mathlib.Core.List.{List, [], ◌∷◌, ◌++◌, append-nil, append_assoc, flatten, IsPrefix}
use Rattle.std.proofs.Math.ListN.{length, length-append}
use Rattle.session.specs.State.{fresh_session}
use Rattle.session.specs.Sound.{Sound, fresh-sound}
use Rattle.transcript.specs.declared.{Stop.Stop}
use Rattle.transcript.specs.Transcript.{printed}
use Rattle.transcript.specs.Steps.{record_room}
use Rattle.transcript.specs.TellLaws.{Returned}
use Rattle.transcript.specs.Fed.{is_end, go_feed, fed, Stopped, fed-prints}
use Rattle.feed.specs.HeldBytes.{held_in}
use Rattle.replay.specs.declared.{Run.Run}
use Rattle.replay.specs.Turns.{waits_for, is_over, Fetching, Going, Turned, telling-waits, returned-by, stopped_by, turn-is-fed}

-- nothing is held, and the first turn reads
abbrev pub first_run : Run
first_run = record { session = fresh_session; answered = 0; held = record { from = 0; to = 0; ended = false }; stop = Stop.Waits }

-- a loop must end
abbrev pub most_turns : ℕ
most_turns = 2 ^ 40

-- so many turns from a run and its buffers to the last ones, none of them behind one that is over
pub data Chain (last : Run) (last-input last_out : List ℕ) : ℕ → Run → List ℕ → List ℕ → Type 0 where
  none : Chain last last-input last_out zero last last-input last_out
  turn : {turns : ℕ} {run next : Run} {input out later-input later-out : List ℕ} → Turned run input out next later-input later-out → is_over run.stop ≡ false
      → Chain last last-input last_out turns next later-input later-out → Chain last last-input last_out (suc turns) run input out

-- The run: a chain of turns from the first, to one that is over or to the last that a run may take, with room for any record's lines.
pub record WholeRun (input out : List ℕ) (last : Run) (last-input last_out : List ℕ) : Type 0 where
  pub room : record_room ≤ length out
  pub turns : ℕ
  pub chain : Chain last last-input last_out turns first_run input out
  pub ends : (is_over last.stop ≡ true) ⊎ (turns ≡ most_turns)

-- .. and underway, with so many turns left
pub record Underway (left : ℕ) (input out : List ℕ) (run : Run) (run-input run_out : List ℕ) : Type 0 where
  pub turns : ℕ
  pub chain : Chain run run-input run_out turns first_run input out
  pub room : record_room ≤ length out
  pub goes_on : is_over run.stop ≡ false
  pub counted : turns + left ≡ most_turns

-- the reads of a turn: one where the turn before waits, and else none
abbrev reads_by : (waits : Bool) (size : ℕ) (before : List ℕ) (ended : Bool) (after : List ℕ) (later : Bool) → Fetching waits size before ended after later → List (List ℕ)
reads_by true size before ended after later f = f.read ∷ []
reads_by false size before ended after later f = []

abbrev pub turn_reads : {run next : Run} {input out later-input later-out : List ℕ} → Turned run input out next later-input later-out → List (List ℕ)
turn_reads {run} {next} {input} t = reads_by (waits_for run.stop) (length input) (held_in run.held input) run.held.ended t.bytes next.held.ended t.fetched

-- .. and of a chain
abbrev pub reads_of : {last : Run} {last-input last_out : List ℕ} {turns : ℕ} {run : Run} {input out : List ℕ} → Chain last last-input last_out turns run input out → List (List ℕ)
reads_of none = []
reads_of (turn t g rest) = turn_reads t ++ reads_of rest

-- what its turns print: each what was told into the buffer
abbrev pub shown : {last : Run} {last-input last_out : List ℕ} {turns : ℕ} {run : Run} {input out : List ℕ} → Chain last last-input last_out turns run input out → List ℕ
shown none = []
shown (turn {later-out = later-out} t g rest) = take t.telling.at later-out ++ shown rest

-- why its last telling stopped
abbrev pub stop_of : {last : Run} {last-input last_out : List ℕ} {turns : ℕ} {run : Run} {input out : List ℕ} → Stop → Chain last last-input last_out turns run input out → Stop
stop_of why none = why
stop_of why (turn t g rest) = stop_of t.telling.stop rest

pub first-going : (size : ℕ) → 0 < size → Going size first_run
first-going size h = record { held-within = (omega arith, omega arith); sound = fresh-sound; room-to-read = λ w. omega arith }

-- one turn more at the end
pub chain-on : {last next : Run} {last-input last_out later-input later-out : List ℕ} {turns : ℕ} {run : Run} {input out : List ℕ} → Chain last last-input last_out turns run input out
    → is_over last.stop ≡ false → Turned last last-input last_out next later-input later-out → Chain next later-input later-out (suc turns) run input out
chain-on none g t = turn t g none
chain-on (turn u k rest) g t = turn u k (chain-on rest g t)

pub underway-first : (input out : List ℕ) → record_room ≤ length out → Underway most_turns input out first_run input out
underway-first input out room = record { turns = 0; chain = none; room = room; goes_on = refl; counted = omega arith }

module _ {left : ℕ} {input out : List ℕ} {run : Run} {run-input run_out : List ℕ} (u : Underway left input out run run-input run_out) where
  pub underway-on : {next : Run} {later-input later-out : List ℕ} → 0 < left → Turned run run-input run_out next later-input later-out → is_over next.stop ≡ false
      → Underway (left - 1) input out next later-input later-out
  underway-on h t g = record { turns = suc u.turns; chain = chain-on u.chain u.goes_on t; room = u.room; goes_on = g; counted = omega (arith, u.counted) }

  pub underway-over : {next : Run} {later-input later-out : List ℕ} → Turned run run-input run_out next later-input later-out → is_over next.stop ≡ true
      → WholeRun input out next later-input later-out
  underway-over t g = record { room = u.room; turns = suc u.turns; chain = chain-on u.chain u.goes_on t; ends = inl g }

  pub underway-used : left ≡ 0 → WholeRun input out run run-input run_out
  underway-used h = record { room = u.room; turns = u.turns; chain = u.chain; ends = inr (omega (arith, u.counted)) }

-- the laws of one turn
module _ {run next : Run} {input out later-input later-out : List ℕ} (t : Turned run input out next later-input later-out) where
  turn_stopped : Stopped (length out) next.held.ended t.bytes t.telling
  turn_stopped = stopped_by run.session run.answered t.bytes out next.held.ended t.tells

  turn-returned : Sound run.session → Returned t.bytes run.answered out t.telling
  turn-returned sound = returned-by run.session run.answered t.bytes out next.held.ended t.tells sound

  -- it waits only for bytes that are to come
  turn-waits : waits_for next.stop ≡ true → next.held.ended ≡ false
  turn-waits w = turn_stopped.more-comes (telling-waits next.stop t.telling.stop t.stop w)

  -- no read is to come just where the input has ended
  turn-ends : (waits_for run.stop ≡ true → run.held.ended ≡ false) → (reads : List (List ℕ)) → is_end reads ≡ next.held.ended → is_end (turn_reads t ++ reads) ≡ run.held.ended
  turn-ends w reads e = go (waits_for run.stop) w t.fetched where
    go : (b : Bool) → (b ≡ true → run.held.ended ≡ false) → (f : Fetching b (length input) (held_in run.held input) run.held.ended t.bytes next.held.ended)
        → is_end (reads_by b (length input) (held_in run.held input) run.held.ended t.bytes next.held.ended f ++ reads) ≡ run.held.ended
    go true w f = sym (w refl)
    go false w f = e ∙ f.1

  -- it is the turn of `fed` that follows the turn before
  turn-fed : is_over run.stop ≡ false → (turns : ℕ) (reads : List (List ℕ)) → is_end reads ≡ next.held.ended
      → go_feed run.stop (fed (suc turns) out run.session run.answered) (held_in run.held input) (turn_reads t ++ reads)
      ≡ take t.telling.at later-out ++ go_feed t.telling.stop (fed turns later-out next.session next.answered) (held_in next.held later-input) reads
  turn-fed g turns reads e = go run.stop g t.fetched ∙ turn-is-fed run next input out later-input later-out t reads e turns where
    go : (why : Stop) → is_over why ≡ false → (f : Fetching (waits_for why) (length input) (held_in run.held input) run.held.ended t.bytes next.held.ended)
        → go_feed why (fed (suc turns) out run.session run.answered) (held_in run.held input)
        (reads_by (waits_for why) (length input) (held_in run.held input) run.held.ended t.bytes next.held.ended f ++ reads)
        ≡ fed (suc turns) out run.session run.answered t.bytes reads
    go Stop.Full g f = ap (λ (bytes : List ℕ). fed (suc turns) out run.session run.answered bytes reads) (sym f.0)
    go Stop.Waits g f = ap (λ (bytes : List ℕ). fed (suc turns) out run.session run.answered bytes reads) (sym f.behind)
    go Stop.Fault g f = absurd (true≢false g)
    go Stop.End g f = absurd (true≢false g)

going_on : (stop why : Stop) → (stop ≡ why) ⊎ (stop ≡ Stop.End) → is_over stop ≡ false → stop ≡ why
going_on stop why (inl e) g = e
going_on stop why (inr e) g = absurd (true≢false (sym (ap is_over e) ∙ g))

chain-ends : {last : Run} {last-input last_out : List ℕ} {turns : ℕ} {run : Run} {input out : List ℕ} (chain : Chain last last-input last_out turns run input out)
    → (waits_for run.stop ≡ true → run.held.ended ≡ false) → (more : List (List ℕ)) → is_end more ≡ last.held.ended → is_end (reads_of chain ++ more) ≡ run.held.ended
chain-ends none w more e = e
chain-ends (turn t g rest) w more e =
    ap is_end (append_assoc (turn_reads t) (reads_of rest) more) ∙ turn-ends t w (reads_of rest ++ more) (chain-ends rest (turn-waits t) more e)

-- the turns of a chain are turns of `fed`
chain-fed : {last : Run} {last-input last_out : List ℕ} {turns : ℕ} {run : Run} {input out : List ℕ} (chain : Chain last last-input last_out turns run input out)
    → (why : Stop) → (run.stop ≡ why) ⊎ (run.stop ≡ Stop.End) → (waits_for run.stop ≡ true → run.held.ended ≡ false)
    → (more : List (List ℕ)) → is_end more ≡ last.held.ended → (extra : ℕ)
    → go_feed why (fed (extra + turns) out run.session run.answered) (held_in run.held input) (reads_of chain ++ more)
    ≡ shown chain ++ go_feed (stop_of why chain) (fed extra last_out last.session last.answered) (held_in last.held last-input) more
chain-fed none why k w more e extra = let z : extra + 0 ≡ extra = omega arith in rw z
chain-fed (turn {turns = turns} {run = run} {input = input} {out = out} {later-out = later-out} t g rest) why k w more e extra =
    let feed = fed (suc (extra + turns)) out run.session run.answered in
    let held = held_in run.held input in
    let one : extra + suc turns ≡ suc (extra + turns) = omega arith in
    rw one
    (ap (λ (s : Stop). go_feed s feed held ((turn_reads t ++ reads_of rest) ++ more)) (sym (going_on run.stop why k g))
    ∙ ap (go_feed run.stop feed held) (append_assoc (turn_reads t) (reads_of rest) more)
    ∙ turn-fed t g (extra + turns) (reads_of rest ++ more) (chain-ends rest (turn-waits t) more e)
    ∙ ap (λ (l : List ℕ). take t.telling.at later-out ++ l) (chain-fed rest t.telling.stop t.stop (turn-waits t) more e extra)
    ∙ sym (append_assoc (take t.telling.at later-out) (shown rest) _))

over_last : (why : Stop) (later : List ℕ → List (List ℕ) → List ℕ) (held : List ℕ) (reads : List (List ℕ)) → is_over why ≡ true → go_feed why later held reads ≡ []
over_last Stop.Full later held reads e = absurd (false≢true e)
over_last Stop.Waits later held reads e = absurd (false≢true e)
over_last Stop.Fault later held reads e = refl
over_last Stop.End later held reads e = refl

first-fed : (turns : ℕ) (out : List ℕ) (reads : List (List ℕ)) → record_room ≤ length out → is_end reads ≡ false → length (flatten reads) + length reads < turns
    → go_feed Stop.Waits (fed turns out fresh_session 0) [] reads ≡ printed (flatten reads)
unfolding flatten
first-fed turns out [] room e h = absurd (true≢false e)
first-fed turns out (r ∷ rs) room e h = fed-prints turns out fresh_session 0 r rs fresh-sound room (omega (arith, length-append r (flatten rs)))

module _ {last : Run} {last-input last_out : List ℕ} {turns : ℕ} {input out : List ℕ} (chain : Chain last last-input last_out turns first_run input out) (room : record_room ≤ length out)
    (more : List (List ℕ)) (e : is_end more ≡ last.held.ended) where
  -- with as many turns more as the reads can ask for
  abbrev extra : ℕ
  extra = suc (length (flatten (reads_of chain ++ more)) + length (reads_of chain ++ more))

  abbrev rest : List ℕ
  rest = go_feed (stop_of Stop.Waits chain) (fed extra last_out last.session last.answered) (held_in last.held last-input) more

  chain-prints : shown chain ++ rest ≡ printed (flatten (reads_of chain ++ more))
  chain-prints =
      sym (chain-fed chain Stop.Waits (inl refl) (λ w. refl) more e extra)
      ∙ first-fed (extra + turns) out (reads_of chain ++ more) room (chain-ends chain (λ w. refl) more e) (omega arith)

-- a turn behind a full buffer is paid for by a byte that was told, another one by its read
abbrev again : Stop → ℕ
again Stop.Full = 1
again Stop.Waits = 0
again Stop.Fault = 0
again Stop.End = 0

module _ {run next : Run} {input out later-input later-out : List ℕ} (t : Turned run input out next later-input later-out) where
  turn-leaves : Sound run.session → record_room ≤ length out → length (held_in next.held later-input) + again next.stop ≤ length t.bytes
  turn-leaves sound room = go next.stop t.stop where
    left : length (held_in next.held later-input) + t.telling.place ≡ length t.bytes
    left = let d = ap length t.left ∙ length-drop t.telling.place t.bytes in omega (arith, d, (turn-returned t sound).place-within)

    go : (why : Stop) → (why ≡ t.telling.stop) ⊎ (why ≡ Stop.End) → length (held_in next.held later-input) + again why ≤ length t.bytes
    go Stop.Full (inl e) = omega (arith, left, (turn_stopped t).headway room (sym e))
    go Stop.Full (inr e) = let z : ◌≡◌ {A = ℕ} 0 1 = cc in absurd (omega arith)
    go Stop.Waits k = omega (arith, left)
    go Stop.Fault k = omega (arith, left)
    go Stop.End k = omega (arith, left)

  turn-takes : is_over run.stop ≡ false → (reads : List (List ℕ))
      → suc (length t.bytes + length (flatten reads) + length reads)
      ≤ length (held_in run.held input) + length (flatten (turn_reads t ++ reads)) + length (turn_reads t ++ reads) + again run.stop
  unfolding flatten
  turn-takes g reads = go run.stop g t.fetched where
    go : (why : Stop) → is_over why ≡ false → (f : Fetching (waits_for why) (length input) (held_in run.held input) run.held.ended t.bytes next.held.ended)
        → let all = reads_by (waits_for why) (length input) (held_in run.held input) run.held.ended t.bytes next.held.ended f ++ reads in
        suc (length t.bytes + length (flatten reads) + length reads) ≤ length (held_in run.held input) + length (flatten all) + length all + again why
    go Stop.Full g f = let e = ap length f.0 in omega (arith, e)
    go Stop.Waits g f = let e = ap length f.behind ∙ length-append (held_in run.held input) f.read in omega (arith, e, length-append f.read (flatten reads))
    go Stop.Fault g f = absurd (true≢false g)
    go Stop.End g f = absurd (true≢false g)

chain-few : {last : Run} {last-input last_out : List ℕ} {turns : ℕ} {run : Run} {input out : List ℕ} (chain : Chain last last-input last_out turns run input out) → Sound run.session
    → record_room ≤ length out → turns ≤ length (held_in run.held input) + length (flatten (reads_of chain)) + length (reads_of chain) + again run.stop
chain-few none sound room = omega arith
chain-few (turn {next = next} t g rest) sound room =
    let later = chain-few rest (rw t.session (turn-returned t sound).sound) (omega (arith, room, t.same-room)) in
    omega (arith, later, turn-leaves t sound room, turn-takes t g (reads_of rest))

module _ {input out : List ℕ} {last : Run} {last-input last_out : List ℕ} (run : WholeRun input out last last-input last_out) where
  -- There are never more turns than bytes and reads, so that the turns of a run suffice for any input of fewer than 2^40 bytes and reads: it comes
  -- to one that is over.
  pub turns-suffice : length (flatten (reads_of run.chain)) + length (reads_of run.chain) < most_turns → is_over last.stop ≡ true
  turns-suffice h = go run.ends where
    go : (is_over last.stop ≡ true) ⊎ (run.turns ≡ most_turns) → is_over last.stop ≡ true
    go (inl o) = o
    go (inr u) = absurd (omega (arith, h, u, chain-few run.chain fresh-sound run.room))

  -- The input is the reads that were made, and any that were still to come where it had not ended.
  module _ (more : List (List ℕ)) (e : is_end more ≡ last.held.ended) where
    -- A7 of the program. Its turns print a front part of what the whole input prints ..
    pub run-front : IsPrefix (shown run.chain) (printed (flatten (reads_of run.chain ++ more)))
    run-front = (rest run.chain run.room more e, chain-prints run.chain run.room more e)

    -- .. and all of it, where the input has fewer than 2^40 bytes and reads and the last turn stopped as its telling did, not for want of an output
    pub run-prints : length (flatten (reads_of run.chain)) + length (reads_of run.chain) < most_turns → last.stop ≡ stop_of Stop.Waits run.chain
        → shown run.chain ≡ printed (flatten (reads_of run.chain ++ more))
    run-prints h same =
        sym (append-nil (shown run.chain))
        ∙ ap (λ (l : List ℕ). shown run.chain ++ l) (sym (over_last (stop_of Stop.Waits run.chain) _ _ more (sym (ap is_over same) ∙ turns-suffice h)))
        ∙ chain-prints run.chain run.room more e
