-- The loop of a telling: what holds before each record.
use Prim.Native.Nat.{ℕ, suc, ◌+◌, ◌-◌, ◌≤◌, ◌<◌}
use Rattle.std.specs.Prelude.{Bool, ◌≡◌, refl, length, take}
use Rattle.std.proofs.Common.{sym, ap, ◌∙◌, arith, add-one, length-append, length-take-le, take_at}
use mathlib.Core.List.{List, ◌++◌}
use Rattle.std.proofs.Math.Nat.{sub-zero}
use Rattle.session.specs.declared.{Session.Session}
use Rattle.session.specs.Sound.{Sound}
use Rattle.records.specs.declared.{kinds.Record.Record}
use Rattle.lists.specs.Put.{put, Wrote, put-append, put-nothing, put-room}
use Rattle.transcript.specs.declared.{Stop.Stop, Next.Next, Stepped.Stepped, Telling.Telling}
use Rattle.transcript.specs.Transcript.{step, step_lines}
use Rattle.transcript.specs.Steps.{WroteStep, step-sound}
use Rattle.transcript.specs.Told.{next_told, Standing, halt, tell_from, records_told, halt_of, last_of, last_room, faults, telling_leaves, told}
use Rattle.transcript.specs.TellLaws.{next-record, tell-record, tell-stop, Within, told-within}

-- the standing of the loop, its text read back from the buffer
abbrev pub standing_of : Session → ℕ → ℕ → ℕ → List ℕ → Standing
standing_of s answered place at out = record { session = s; answered = answered; place = place; text = take at out }

pub record Underway (ended : Bool) (bytes out₀ : List ℕ) (s₀ : Session) (answered₀ : ℕ) (s : Session) (answered place at : ℕ) (out : List ℕ) : Type 0 where
  pub sound : Sound s
  pub place-within : place ≤ length bytes
  pub counted : answered ≤ answered₀ + place
  pub at-within : at ≤ length out
  pub as_long : length out ≡ length out₀
  pub only-text : out ≡ put out₀ 0 (take at out)
  pub leads-on : tell_from (suc (length bytes - place)) (length out₀) ended bytes (standing_of s answered place at out) ≡ records_told (length out₀) ended bytes s₀ answered₀

-- the text behind another
text-behind : (out : List ℕ) (at : ℕ) (text : List ℕ) → at ≤ length out → take (at + length text) (put out at text) ≡ take at out ++ text
unfolding put
text-behind out at text h =
    take_at (take at out ++ text) _ (at + length text) (length-append (take at out) text ∙ ap (λ (n : ℕ). n + length text) (length-take-le at out h))

module _ (ended : Bool) (bytes out₀ : List ℕ) (s₀ : Session) (answered₀ : ℕ) where
  pub underway-first : Sound s₀ → Underway ended bytes out₀ s₀ answered₀ s₀ answered₀ 0 0 out₀
  underway-first sound = record {
    sound = sound;
    place-within = omega arith;
    counted = omega arith;
    at-within = omega arith;
    as_long = refl;
    only-text = put-nothing out₀ 0 (omega arith);
    leads-on = rw (sub-zero (length bytes));
  }

  module _ {s : Session} {answered place at : ℕ} {out : List ℕ} (u : Underway ended bytes out₀ s₀ answered₀ s answered place at out) where
    room : length out₀ - length (take at out) ≡ length out - at
    room = omega (arith, u.as_long, length-take-le at out u.at-within)

    seen : {f : Next} → f ≡ next_told bytes place ended (length out - at) → next_told bytes place ended (length out₀ - length (take at out)) ≡ f
    seen e = ap (next_told bytes place ended) room ∙ sym e

    -- a record whose lines are written
    pub underway-next : {r : Record} {next : ℕ} → Next.Record r next ≡ next_told bytes place ended (length out - at) → {done : Stepped Session} {out' : List ℕ}
        → WroteStep (answered + 1) out out' at done (step s r) → length out' ≡ length out → Underway ended bytes out₀ s₀ answered₀ done.session (answered + 1) next done.at out'
    underway-next {r} {next} e {done} {out'} (same, (end, new)) long = record {
      sound = rw same (step-sound s r u.sound);
      place-within = onward.1;
      counted = omega (arith, u.counted, onward.0);
      at-within = omega (arith, long, end, fits);
      as_long = long ∙ u.as_long;
      only-text =
          new ∙ ap (λ (l : List ℕ). put l at lines) u.only-text ∙ ap (λ (n : ℕ). put (put out₀ 0 (take at out)) n lines) (sym size)
          ∙ put-append out₀ 0 (take at out) lines (omega arith) ∙ ap (put out₀ 0) (sym text);
      leads-on = rw (text, same, add-one answered) (sym (tell-record (length out₀) ended bytes (standing_of s answered place at out) (seen e))) ∙ u.leads-on;
    }
      where
        lines : List ℕ
        lines = step_lines (answered + 1) (step s r)

        onward : (place < next) × (next ≤ length bytes)
        onward = let f = next-record bytes place ended (length out - at) (sym e) in (f.0, f.1)

        size : 0 + length (take at out) ≡ at
        size = omega (arith, length-take-le at out u.at-within)

        fits : at + length lines ≤ length out
        fits = put-room out at lines u.at-within (ap length (sym new) ∙ long)

        text : take done.at out' ≡ take at out ++ lines
        text = rw (end, new) (text-behind out at lines u.at-within)

    pub underway-stop : {why : Stop} → Next.Stop why ≡ next_told bytes place ended (length out - at)
        → halt (standing_of s answered place at out) why ≡ records_told (length out₀) ended bytes s₀ answered₀
    underway-stop e = sym (tell-stop (length bytes - place) (length out₀) ended bytes (standing_of s answered place at out) (seen e)) ∙ u.leads-on

-- the telling's end: the records told, and the last lines behind them
module _ (ended : Bool) (bytes out : List ℕ) (s : Session) (answered : ℕ) (sound : Sound s) (r : Telling) (one : List ℕ)
    (h : halt_of r one ≡ records_told (length out) ended bytes s answered) (within : r.at ≤ length out) (long : length one ≡ length out) where
  text-size : length (take r.at one) ≡ r.at
  text-size = length-take-le r.at one (omega (arith, long, within))

  halted : Within (length out) bytes answered (halt_of r one)
  halted = rw h (told-within (length out) ended bytes s answered sound)

  pub last-room : r.at + last_room r.stop ≤ length one
  last-room = omega (arith, long, text-size, halted.room-left)

  pub last-counted : r.answered + faults r.stop ≤ answered + length bytes
  last-counted = halted.counted

  pub told-whole : one ≡ put out 0 (take r.at one) → {two : List ℕ} {end : ℕ} → Wrote one two r.at end (last_of r.answered r.stop)
      → telling_leaves (record { session = r.session; answered = r.answered; place = r.place; at = end; stop = r.stop }) two ≡ told s answered bytes ended out
  unfolding told
  told-whole only {two} {end} (at-end, new) = rw (sym h, size, text) where
    last : List ℕ
    last = last_of r.answered r.stop

    size : end ≡ length (take r.at one ++ last)
    size = omega (arith, at-end, text-size, length-append (take r.at one) last)

    text : two ≡ put out 0 (take r.at one ++ last)
    text =
        let behind : 0 + length (take r.at one) ≡ r.at = omega (arith, text-size) in
        new ∙ ap (λ (l : List ℕ). put l r.at last) only ∙ ap (λ (n : ℕ). put (put out 0 (take r.at one)) n last) (sym behind) ∙ put-append out 0 (take r.at one) last (omega arith)
