-- Sound: the one stated property that a promise may take for its premise (A3). A fresh session has it, and every call hands it on.
use Rattle.std.specs.Prelude.{ℕ, ◌≤◌, ◌<◌, Bool, false, ◌≡◌, refl, T}
use Rattle.std.proofs.Common.{true≢false, sym, subst, arith}
use Rattle.lists.specs.Tests.{and_both, and_intro}
use Rattle.terms.specs.Bounds.{max_number}
use Rattle.terms.specs.Kinds.{is_price}
use Rattle.terms.specs.Tables.{row_of, on_step, is_table, is_reference}
use Rattle.terms.specs.Parameters.{are_parameters}
use Rattle.terms.proofs.Made.{parameters-hold}
use Rattle.terms.specs.declared.kinds.{Price.Price}
use Rattle.terms.specs.declared.parameters.{Parameters.Parameters}
use Rattle.book.specs.declared.Book.{Book}
use Rattle.book.specs.Sound.{SoundBook, empty-sound}
use Rattle.queue.specs.RankNumbers.{number_room}
use Rattle.controls.specs.declared.phases.{Phase.Phase, Phase.TheVariants.Fresh, Phase.TheVariants.PreOpening, Phase.TheVariants.Day, Phase.TheVariants.Closed}
use Rattle.controls.specs.Phases.{has_started}
use Rattle.session.specs.declared.{Session.Session}
use Rattle.session.specs.State.{fresh_session, begun, with_book, passed_on, delay_given}

-- the legal prices of a session: those on their step by its table (02 K6)
abbrev pub legal_price : Session → ℕ → Bool
legal_price s x = is_reference s.parameters.table x

pub legal-in-range : (s : Session) (x : ℕ) → T (legal_price s x) → T (is_price x)
legal-in-range s x h = (and_both (is_price x) _ h).0

pub record Sound (s : Session) : Type 0 where
  -- a session that has not started is the fresh one
  pub fresh : s.phase ≡ Fresh → s ≡ fresh_session
  -- parameters in range, and in force a reference price that is legal
  pub parameters-hold : T (are_parameters s.parameters)
  pub reference-holds : T (legal_price s s.reference.0)
  pub numbers-left : s.given ≤ max_number
  pub book-sound : SoundBook (legal_price s) s.given s.book

-- every number given has room in a rank
pub number-room : (s : Session) → Sound s → s.given < number_room
number-room s sound = omega (arith, sound.numbers-left)

pub fresh-sound : Sound fresh_session
unfolding is_table row_of on_step
fresh-sound = record {
  fresh = λ e. refl;
  parameters-hold = tt;
  reference-holds = tt;
  numbers-left = omega arith;
  book-sound = empty-sound (legal_price fresh_session) 0;
}

not-started : (p : Phase) → has_started p ≡ false → p ≡ Fresh
not-started Fresh e = refl
not-started PreOpening e = absurd (true≢false e)
not-started Day e = absurd (true≢false e)
not-started Closed e = absurd (true≢false e)

-- Each change of a session hands it on.
module _ (s : Session) (sound : Sound s) where
  pub begun-sound : has_started s.phase ≡ false → (p : Parameters) → T (are_parameters p) → Sound (begun s p)
  begun-sound again p holds =
      let same = sound.fresh (not-started s.phase again) in
      let parts = parameters-hold p holds in
      record {
        fresh = λ i. let z : ◌≡◌ {A = ℕ} 0 1 = cc in absurd (omega arith);
        parameters-hold = holds;
        reference-holds = and_intro (is_price p.reference.0) (on_step p.table p.reference.0) parts.reference-price parts.reference-on-step;
        numbers-left = sound.numbers-left;
        book-sound = subst (λ (x : Session). SoundBook (legal_price (begun s p)) x.given x.book) (sym same) (empty-sound (legal_price (begun s p)) 0);
      }

  pub with-book-sound : T (has_started s.phase) → (given : ℕ) (book : Book) → given ≤ max_number → SoundBook (legal_price s) given book → Sound (with_book s given book)
  with-book-sound running given book few holds = record {
    fresh = λ i. absurd (rw i at running);
    parameters-hold = sound.parameters-hold;
    reference-holds = sound.reference-holds;
    numbers-left = few;
    book-sound = holds;
  }

  pub passed-on-sound : (phase : Phase) → (phase ≡ Fresh → ⊥) → (reference : Price) → T (legal_price s reference.0) → (book : Book)
      → SoundBook (legal_price s) s.given book → Sound (passed_on s phase reference book)
  passed-on-sound phase later reference legal book holds = record {
    fresh = λ i. absurd (later i);
    parameters-hold = sound.parameters-hold;
    reference-holds = legal;
    numbers-left = sound.numbers-left;
    book-sound = holds;
  }

  pub delay-given-sound : T (has_started s.phase) → Sound (delay_given s)
  delay-given-sound running = record {
    fresh = λ i. absurd (rw i at running);
    parameters-hold = sound.parameters-hold;
    reference-holds = sound.reference-holds;
    numbers-left = sound.numbers-left;
    book-sound = sound.book-sound;
  }
