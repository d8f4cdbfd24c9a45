-- A7: a file that comes in reads. Whatever the reads are, what is printed is what the whole file prints.
use Rattle.std.specs.Prelude.{ℕ, zero, suc, ◌+◌, ◌-◌, ◌≤◌, ◌<◌, Bool, true, false, cond, not, ◌&&◌, ◌≢◌, ◌≡◌, refl, ltb, length, take, drop}
use Rattle.std.proofs.Common.{true≢false, sym, ◌∙◌, ap, subst, length-append, length-drop, arith, ltb-true}
use Rattle.std.proofs.lemmas.Bool.{false≢true}
use mathlib.Core.List.{List, [], ◌∷◌, ◌++◌, append-nil, append_assoc, flatten}
use Rattle.std.proofs.Math.Seq.{take-append_seam}
use Rattle.std.proofs.lemmas.List.{drop-append-le}
use Rattle.session.specs.declared.{Session.Session}
use Rattle.session.specs.State.{fresh_session}
use Rattle.session.specs.Sound.{Sound, fresh-sound}
use Rattle.records.specs.declared.{kinds.Record.Record}
use Rattle.records.specs.Walk.{Walk, Read, record_at, after, go_on, walk_from}
use Rattle.records.specs.Ends.{reads-suffice}
use Rattle.records.specs.Lengths.{length_bound}
use Rattle.records.specs.Pieces.{needs_more, waits-short, settled-read, moved_by, moved-read}
use Rattle.lists.specs.Put.{put, put-length}
use Rattle.transcript.specs.declared.{Stop.Stop, Next.Next, Telling.Telling}
use Rattle.transcript.specs.Transcript.{step, step_lines, last_lines, lines_from, printed}
use Rattle.transcript.specs.Steps.{record_room}
use Rattle.transcript.specs.Told.{next_of, next_told, Standing, behind, Halt, halt, go_tell, tell_from, records_told, text_of, told}
use Rattle.transcript.specs.TellLaws.{next-record, tell-ends, told-returned}

-- what is still to be printed of a file from a place on
abbrev pub lines_at : Session → ℕ → List ℕ → ℕ → List ℕ
lines_at s answered file place = lines_from s answered (walk_from (suc (length file)) file place).records (walk_from (suc (length file)) file place).faulty

-- no read is to come
abbrev pub is_end : List (List ℕ) → Bool
is_end [] = true
is_end (r ∷ rs) = false

-- what follows a turn, by why it stopped: the same bytes again where there was no room, the next read behind what is held where it waits, nothing
-- after the last line
abbrev pub go_feed : Stop → (List ℕ → List (List ℕ) → List ℕ) → List ℕ → List (List ℕ) → List ℕ
go_feed Stop.Full later held reads = later held reads
go_feed Stop.Waits later held [] = []
go_feed Stop.Waits later held (r ∷ rs) = later (held ++ r) rs
go_feed Stop.Fault later held reads = []
go_feed Stop.End later held reads = []

-- a session program's turns: the bytes held are told into the buffer, what was written there is printed, and the turns go on; at most so many
unfoldable pub fed : ℕ → List ℕ → Session → ℕ → List ℕ → List (List ℕ) → List ℕ
fed zero out s answered held reads = []
fed (suc turns) out s answered held reads =
    let l = told s answered held (is_end reads) out in
    take l.returned.at l.out
    ++ go_feed l.returned.stop (fed turns l.out l.returned.session l.returned.answered) (drop l.returned.place held) reads

-- what is printed from a read on
abbrev pub read_lines : Read → Session → ℕ → List ℕ → List ℕ
read_lines (Read.Record r next) s answered file = step_lines (suc answered) (step s r) ++ lines_at (step s r).session (suc answered) file next
read_lines Read.Fault s answered file = last_lines answered true
read_lines Read.End s answered file = last_lines answered false

more-reads : (n m : ℕ) (file : List ℕ) (place : ℕ) → length file ≤ place + n → n ≤ m → walk_from m file place ≡ walk_from n file place
more-reads n m file place h k = let e : m ≡ m - n + n = omega arith in ap (λ (i : ℕ). walk_from i file place) e ∙ reads-suffice n (m - n) file place h

-- the walk's first read, and as many reads allowed again
walk-read : (file : List ℕ) (place : ℕ) (read : Read) → record_at file place ≡ read
    → walk_from (suc (length file)) file place ≡ go_on read (λ next. walk_from (suc (length file)) file next)
unfolding walk_from
walk-read file place read e = ap (λ (r : Read). go_on r (λ next. walk_from (length file) file next)) e ∙ go read where
  go : (read : Read) → go_on read (λ next. walk_from (length file) file next) ≡ go_on read (λ next. walk_from (suc (length file)) file next)
  go Read.End = refl
  go Read.Fault = refl
  go (Read.Record r next) = ap (after r) (sym (more-reads (length file) (suc (length file)) file next (omega arith) (omega arith)))

lines-read : (s : Session) (answered : ℕ) (file : List ℕ) (place : ℕ) {read : Read} → record_at file place ≡ read
    → lines_at s answered file place ≡ read_lines read s answered file
unfolding lines_from
lines-read s answered file place {read} e = ap shown (walk-read file place read e) ∙ go read where
  shown : Walk → List ℕ
  shown w = lines_from s answered w.records w.faulty

  go : (read : Read) → shown (go_on read (λ next. walk_from (suc (length file)) file next)) ≡ read_lines read s answered file
  go Read.End = refl
  go Read.Fault = refl
  go (Read.Record r next) = refl

-- a walk behind the first k bytes
walk-moved : (n k : ℕ) (file : List ℕ) (place : ℕ) → walk_from n file (k + place) ≡ walk_from n (drop k file) place
unfolding walk_from
walk-moved zero k file place = refl
walk-moved (suc n) k file place =
    ap (λ (r : Read). go_on r (λ next. walk_from n file next)) (moved-read k file place) ∙ go (λ next. walk-moved n k file next) (record_at (drop k file) place)
  where
    go : ((next : ℕ) → walk_from n file (k + next) ≡ walk_from n (drop k file) next) → (read : Read)
        → go_on (moved_by k read) (λ next. walk_from n file next) ≡ go_on read (λ next. walk_from n (drop k file) next)
    go later Read.End = refl
    go later Read.Fault = refl
    go later (Read.Record r next) = ap (after r) (later next)

-- what is printed behind the first k bytes is what the rest prints
lines-moved : (s : Session) (answered : ℕ) (file : List ℕ) (k : ℕ) → lines_at s answered file k ≡ lines_at s answered (drop k file) 0
lines-moved s answered file k =
    let l = length-drop k file in
    let z : k + 0 ≡ k = omega arith in
    ap (λ (w : Walk). lines_from s answered w.records w.faulty)
    (more-reads (suc (length (drop k file))) (suc (length file)) file k (omega (arith, l)) (omega (arith, l))
    ∙ rw z at (walk-moved (suc (length (drop k file))) k file 0))

-- no more bytes where the file has ended, and any where it goes on: what isn't waited for is read the same
read-on : (bytes more : List ℕ) (place : ℕ) (ended : Bool) → (ended ≡ true → more ≡ []) → not ended && needs_more bytes place ≡ false
    → record_at (bytes ++ more) place ≡ record_at bytes place
read-on bytes more place true none h = ap (λ (file : List ℕ). record_at file place) (ap (λ (m : List ℕ). bytes ++ m) (none refl) ∙ append-nil bytes)
read-on bytes more place false none h = settled-read bytes place h more

-- what is told next of the whole file
abbrev Reads : List ℕ → ℕ → Bool → ℕ → Next → Type 0
Reads file place ended room (Next.Record r next) = record_at file place ≡ Read.Record r next
Reads file place ended room (Next.Stop Stop.Full) = room < record_room
Reads file place ended room (Next.Stop Stop.Waits) = ended ≡ false
Reads file place ended room (Next.Stop Stop.Fault) = record_at file place ≡ Read.Fault
Reads file place ended room (Next.Stop Stop.End) = record_at file place ≡ Read.End

next-reads : (bytes more : List ℕ) (place : ℕ) (ended : Bool) (room : ℕ) {f : Next} → (ended ≡ true → more ≡ []) → next_told bytes place ended room ≡ f
    → Reads (bytes ++ more) place ended room f
next-reads bytes more place ended room none e =
    subst (λ (f : Next). Reads (bytes ++ more) place ended room f) e
    (go (ltb room record_room) (not ended && needs_more bytes place) (record_at bytes place) refl refl refl)
  where
    more-comes : (ended x : Bool) → not ended && x ≡ true → ended ≡ false
    more-comes true x h = sym h
    more-comes false x h = refl

    go : (a b : Bool) (read : Read) → ltb room record_room ≡ a → not ended && needs_more bytes place ≡ b → record_at bytes place ≡ read
        → Reads (bytes ++ more) place ended room (cond a (Next.Stop Stop.Full) (cond b (Next.Stop Stop.Waits) (next_of read)))
    go true b read p w q = ltb-true room record_room p
    go false true read p w q = more-comes ended (needs_more bytes place) w
    go false false (Read.Record r next) p w q = read-on bytes more place ended none w ∙ q
    go false false Read.Fault p w q = read-on bytes more place ended none w ∙ q
    go false false Read.End p w q = read-on bytes more place ended none w ∙ q

-- what is printed behind a telling: nothing after the last lines
abbrev pub later_of : Stop → List ℕ → List ℕ
later_of Stop.Full lines = lines
later_of Stop.Waits lines = lines
later_of Stop.Fault lines = []
later_of Stop.End lines = []

-- what is to be printed where a telling stands in the file
abbrev to_say : Standing → List ℕ → List ℕ
to_say t file = t.text ++ lines_at t.session t.answered file t.place

-- .. and where it stopped, with the bytes behind its place
abbrev pub said : Halt → List ℕ → List ℕ
said h rest = text_of h ++ later_of h.stop (lines_at h.standing.session h.standing.answered rest 0)

module _ (room : ℕ) (ended : Bool) (bytes more : List ℕ) (none : ended ≡ true → more ≡ []) where
  -- a record moves its lines from what is to come into the text
  say-record : (t : Standing) (r : Record) (next : ℕ) → next_told bytes t.place ended (room - length t.text) ≡ Next.Record r next
      → to_say t (bytes ++ more) ≡ to_say (behind t r next) (bytes ++ more)
  say-record t r next e =
      let q : record_at (bytes ++ more) t.place ≡ Read.Record r next = next-reads bytes more t.place ended (room - length t.text) none e in
      ap (λ (l : List ℕ). t.text ++ l) (lines-read t.session t.answered (bytes ++ more) t.place q)
      ∙ sym (append_assoc t.text (step_lines (suc t.answered) (step t.session r)) (lines_at (step t.session r).session (suc t.answered) (bytes ++ more) next))

  say-later : (t : Standing) → t.place ≤ length bytes → to_say t (bytes ++ more) ≡ said (halt t Stop.Full) (drop t.place bytes ++ more)
  say-later t h =
      rw (append-nil t.text, ← drop-append-le t.place bytes more h) (ap (λ (l : List ℕ). t.text ++ l) (lines-moved t.session t.answered (bytes ++ more) t.place))

  say-stop : (t : Standing) (why : Stop) → t.place ≤ length bytes → next_told bytes t.place ended (room - length t.text) ≡ Next.Stop why
      → to_say t (bytes ++ more) ≡ said (halt t why) (drop t.place bytes ++ more)
  say-stop t Stop.Full h e = say-later t h
  say-stop t Stop.Waits h e = say-later t h
  say-stop t Stop.Fault h e =
      let q : record_at (bytes ++ more) t.place ≡ Read.Fault = next-reads bytes more t.place ended (room - length t.text) none e in
      ap (λ (l : List ℕ). t.text ++ l) (lines-read t.session t.answered (bytes ++ more) t.place q) ∙ sym (append-nil (t.text ++ last_lines t.answered true))
  say-stop t Stop.End h e =
      let q : record_at (bytes ++ more) t.place ≡ Read.End = next-reads bytes more t.place ended (room - length t.text) none e in
      ap (λ (l : List ℕ). t.text ++ l) (lines-read t.session t.answered (bytes ++ more) t.place q) ∙ sym (append-nil (t.text ++ last_lines t.answered false))

  -- from any standing
  tell-says : (n : ℕ) (t : Standing) → t.place ≤ length bytes
      → let h = tell_from n room ended bytes t in to_say t (bytes ++ more) ≡ said h (drop h.standing.place bytes ++ more)
  tell-says n t h =
      tell-ends room ended bytes (λ u. (u.place ≤ length bytes) × (to_say t (bytes ++ more) ≡ to_say u (bytes ++ more)))
      (λ h. to_say t (bytes ++ more) ≡ said h (drop h.standing.place bytes ++ more))
      (λ u r next g e. ((next-record bytes u.place ended (room - length u.text) e).1, g.1 ∙ say-record u r next e))
      (λ u why g e. g.1 ∙ say-stop u why g.0 e)
      (λ u g. g.1 ∙ say-later u g.0)
      n t (h, refl)

-- what a telling says and what the bytes behind it print is what they all print, whatever bytes are still to come
pub told-says : (room : ℕ) (ended : Bool) (bytes : List ℕ) (s : Session) (answered : ℕ) (more : List ℕ) → (ended ≡ true → more ≡ [])
    → let h = records_told room ended bytes s answered in lines_at s answered (bytes ++ more) 0 ≡ said h (drop h.standing.place bytes ++ more)
told-says room ended bytes s answered more none =
    tell-says room ended bytes more none (suc (length bytes)) (record { session = s; answered = answered; place = 0; text = [] }) (omega arith)

-- it waits only for bytes that are to come
told-waits : (room : ℕ) (ended : Bool) (bytes : List ℕ) (s : Session) (answered : ℕ) → (records_told room ended bytes s answered).stop ≡ Stop.Waits → ended ≡ false
told-waits room ended bytes s answered =
    tell-ends room ended bytes (λ u. Unit {0}) (λ h. h.stop ≡ Stop.Waits → ended ≡ false) (λ u r next g e. tt)
    (λ u why g e w. next-reads bytes [] u.place ended (room - length u.text) (λ x. refl) (e ∙ ap Next.Stop w))
    (λ u g w. let z : ◌≡◌ {A = ℕ} 0 1 = cc in absurd (omega arith))
    (suc (length bytes)) (record { session = s; answered = answered; place = 0; text = [] }) tt

-- with room for a record's lines it is full only behind a record
told-headway : (room : ℕ) (ended : Bool) (bytes : List ℕ) (s : Session) (answered : ℕ) → record_room ≤ room
    → (records_told room ended bytes s answered).stop ≡ Stop.Full → 0 < (records_told room ended bytes s answered).standing.place
unfolding tell_from
told-headway room ended bytes s answered h = go (next_told bytes 0 ended (room - 0)) refl where
  start : Standing
  start = record { session = s; answered = answered; place = 0; text = [] }

  onward : (t : Standing) → 0 < t.place → 0 < (tell_from (length bytes) room ended bytes t).standing.place
  onward t g =
      tell-ends room ended bytes (λ u. 0 < u.place) (λ h. 0 < h.standing.place)
      (λ u r next k e. let b = next-record bytes u.place ended (room - length u.text) e in omega arith)
      (λ u why k e. k) (λ u k. k) (length bytes) t g

  go : (f : Next) → next_told bytes 0 ended (room - 0) ≡ f → (go_tell f start (tell_from (length bytes) room ended bytes)).stop ≡ Stop.Full
      → 0 < (go_tell f start (tell_from (length bytes) room ended bytes)).standing.place
  go (Next.Record r next) e w = onward (behind start r next) (next-record bytes 0 ended (room - 0) e).0
  go (Next.Stop why) e w =
      let full : room - 0 < record_room = next-reads bytes [] 0 ended (room - 0) (λ x. refl) (e ∙ ap Next.Stop w) in
      absurd (omega arith)

not-waits : (read : Read) → next_of read ≡ Next.Stop Stop.Waits → ⊥
not-waits (Read.Record r next) e = let z : ◌≡◌ {A = ℕ} 0 1 = cc in omega arith
not-waits Read.Fault e = let z : ◌≡◌ {A = ℕ} 0 1 = cc in omega arith
not-waits Read.End e = let z : ◌≡◌ {A = ℕ} 0 1 = cc in omega arith

-- a telling waits with fewer bytes than a record can have
pub next-short : (bytes : List ℕ) (place : ℕ) (ended : Bool) (room : ℕ) → next_told bytes place ended room ≡ Next.Stop Stop.Waits → length bytes < place + length_bound
next-short bytes place ended room e = go (ltb room record_room) (needs_more bytes place) ended refl e where
  go : (full more e : Bool) → needs_more bytes place ≡ more
      → cond full (Next.Stop Stop.Full) (cond (not e && more) (Next.Stop Stop.Waits) (next_of (record_at bytes place))) ≡ Next.Stop Stop.Waits → length bytes < place + length_bound
  go true more e p w = let z : ◌≡◌ {A = ℕ} 0 1 = cc in absurd (omega arith)
  go false true false p w = waits-short bytes place p
  go false true true p w = absurd (not-waits (record_at bytes place) w)
  go false false false p w = absurd (not-waits (record_at bytes place) w)
  go false false true p w = absurd (not-waits (record_at bytes place) w)

-- what it waits with is shorter than a record can be
told-short : (room : ℕ) (ended : Bool) (bytes : List ℕ) (s : Session) (answered : ℕ) → (records_told room ended bytes s answered).stop ≡ Stop.Waits
    → length bytes < (records_told room ended bytes s answered).standing.place + length_bound
told-short room ended bytes s answered =
    tell-ends room ended bytes (λ u. Unit {0}) (λ h. h.stop ≡ Stop.Waits → length bytes < h.standing.place + length_bound) (λ u r next g e. tt)
    (λ u why g e w. next-short bytes u.place ended (room - length u.text) (e ∙ ap Next.Stop w))
    (λ u g w. let z : ◌≡◌ {A = ℕ} 0 1 = cc in absurd (omega arith))
    (suc (length bytes)) (record { session = s; answered = answered; place = 0; text = [] }) tt

-- By why a telling stopped: full only behind a record, and waiting only where bytes are to come, with fewer left than a record can have.
pub record Stopped (room : ℕ) (ended : Bool) (bytes : List ℕ) (r : Telling) : Type 0 where
  pub headway : record_room ≤ room → r.stop ≡ Stop.Full → 0 < r.place
  pub more-comes : r.stop ≡ Stop.Waits → ended ≡ false
  pub short : r.stop ≡ Stop.Waits → length bytes < r.place + length_bound

pub told-stopped : (s : Session) (answered : ℕ) (bytes : List ℕ) (ended : Bool) (out : List ℕ) → Stopped (length out) ended bytes (told s answered bytes ended out).returned
unfolding told
told-stopped s answered bytes ended out = record {
  headway = told-headway (length out) ended bytes s answered;
  more-comes = told-waits (length out) ended bytes s answered;
  short = told-short (length out) ended bytes s answered;
}

-- what was written from the front on is read back
text-back : (out text : List ℕ) → take (length text) (put out 0 text) ≡ text
unfolding put
text-back out text = take-append_seam text (drop (0 + length text) out)

-- the turns that follow print the rest, where they do so with fewer bytes or fewer reads
feed-prints : (turns : ℕ) (later : List ℕ → List (List ℕ) → List ℕ) (s : Session) (answered : ℕ)
    → ((held : List ℕ) (reads : List (List ℕ)) → length held + length (flatten reads) + length reads < turns → later held reads ≡ lines_at s answered (held ++ flatten reads) 0)
    → (why : Stop) (held : List ℕ) (reads : List (List ℕ)) → length held + length (flatten reads) + length reads ≤ turns
    → (why ≡ Stop.Full → length held + length (flatten reads) + length reads < turns) → (why ≡ Stop.Waits → is_end reads ≡ false)
    → go_feed why later held reads ≡ later_of why (lines_at s answered (held ++ flatten reads) 0)
unfolding flatten
feed-prints turns later s answered prints Stop.Full held reads h full waits = prints held reads (full refl)
feed-prints turns later s answered prints Stop.Waits held [] h full waits = absurd (true≢false (waits refl))
feed-prints turns later s answered prints Stop.Waits held (r ∷ rs) h full waits =
    prints (held ++ r) rs (omega (arith, length-append held r, length-append r (flatten rs)))
    ∙ ap (λ (file : List ℕ). lines_at s answered file 0) (append_assoc held r (flatten rs))
feed-prints turns later s answered prints Stop.Fault held reads h full waits = refl
feed-prints turns later s answered prints Stop.End held reads h full waits = refl

ended-all : (reads : List (List ℕ)) → is_end reads ≡ true → flatten reads ≡ []
unfolding flatten
ended-all [] e = refl
ended-all (r ∷ rs) e = absurd (false≢true e)

-- A7. Whatever the reads are, what is printed is what the whole file prints, where the buffer has room for a record's lines and there are more
-- turns than bytes and reads.
pub fed-prints : (turns : ℕ) (out : List ℕ) (s : Session) (answered : ℕ) (held : List ℕ) (reads : List (List ℕ)) → Sound s → record_room ≤ length out
    → length held + length (flatten reads) + length reads < turns → fed turns out s answered held reads ≡ lines_at s answered (held ++ flatten reads) 0
unfolding fed told
fed-prints zero out s answered held reads sound room h = absurd (omega arith)
fed-prints (suc turns) out s answered held reads sound room h =
    let t = records_told (length out) (is_end reads) held s answered in
    let w = told-returned s answered held (is_end reads) out sound in
    let l : length (put out 0 (text_of t)) ≡ length out = put-length out 0 (text_of t) (omega (arith, w.at-within)) in
    let d = length-drop t.standing.place held in
    rw (text-back out (text_of t))
    (ap (λ (rest : List ℕ). text_of t ++ rest)
    (feed-prints turns (fed turns (put out 0 (text_of t)) t.standing.session t.standing.answered) t.standing.session t.standing.answered
    (λ held' reads' k. fed-prints turns (put out 0 (text_of t)) t.standing.session t.standing.answered held' reads' w.sound (omega (arith, l)) k)
    t.stop (drop t.standing.place held) reads
    (omega (arith, d))
    (λ full. omega (arith, d, told-headway (length out) (is_end reads) held s answered room full, w.place-within))
    (told-waits (length out) (is_end reads) held s answered))
    ∙ sym (told-says (length out) (is_end reads) held s answered (flatten reads) (ended-all reads)))

-- .. from a fresh session
pub a7 : (turns : ℕ) (out : List ℕ) (reads : List (List ℕ)) → record_room ≤ length out → length (flatten reads) + length reads < turns
    → fed turns out fresh_session 0 [] reads ≡ printed (flatten reads)
a7 turns out reads room h = fed-prints turns out fresh_session 0 [] reads fresh-sound room (omega arith)

-- .. and a whole file told at once prints the same, where there was room for all of it
pub whole-told : (bytes out : List ℕ) → (told fresh_session 0 bytes true out).returned.stop ≢ Stop.Full
    → take (told fresh_session 0 bytes true out).returned.at (told fresh_session 0 bytes true out).out ≡ printed bytes
unfolding told
whole-told bytes out h = text-back out (text_of t) ∙ sym (append-nil (text_of t)) ∙ ap (λ (l : List ℕ). text_of t ++ l) (go t.stop refl) ∙ says where
  t : Halt
  t = records_told (length out) true bytes fresh_session 0

  rest : List ℕ
  rest = lines_at t.standing.session t.standing.answered (drop t.standing.place bytes ++ []) 0

  go : (why : Stop) → t.stop ≡ why → [] ≡ later_of why rest
  go Stop.Full e = absurd (h e)
  go Stop.Waits e = absurd (true≢false (told-waits (length out) true bytes fresh_session 0 e))
  go Stop.Fault e = refl
  go Stop.End e = refl

  says : said t (drop t.standing.place bytes ++ []) ≡ printed bytes
  says = sym (told-says (length out) true bytes fresh_session 0 [] (λ e. refl)) ∙ ap (λ (file : List ℕ). lines_at fresh_session 0 file 0) (append-nil bytes)
