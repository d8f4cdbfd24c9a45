-- Start, order and delete hand Sound on (A3).
use Rattle.std.specs.Prelude.{ℕ, ◌+◌, ◌<◌, Bool, true, false, not, ◌≡◌, T}
use Rattle.std.proofs.Common.{true≢false, sym, ◌∙◌, arith, leb-false, ltb-true}
use Rattle.std.proofs.lemmas.Bool.{eqb-false, not-false}
use Rattle.lists.specs.Tests.{test-holds, and_intro}
use Rattle.lists.specs.Choice.{any}
use Rattle.terms.specs.Bounds.{places, max_number}
use Rattle.terms.specs.Kinds.{is_price}
use Rattle.terms.specs.Tables.{on_step}
use Rattle.terms.specs.Orders.{is_limit, is_legal, limit_from, is_entry}
use Rattle.terms.proofs.Made.{fields-hold}
use Rattle.terms.specs.Parameters.{parameters_from, is_start}
use Rattle.terms.specs.declared.orders.{Limit.Limit, Limit.TheVariants.Unlimited, Limit.TheVariants.At, Entry.Entry}
use Rattle.terms.specs.declared.parameters.{Start.Start}
use Rattle.places.specs.Places.{lowest_free, count_taken}
use Rattle.places.specs.Words.{lowest-free-room}
use Rattle.book.specs.Resting.{resting, place_of, is_of}
use Rattle.book.specs.ByPlace.{any-resting}
use Rattle.book.specs.Sound.{SoundOrder, stored-sound, cleared-sound}
use Rattle.controls.specs.Phases.{has_started}
use Rattle.refusals.specs.Checks.{first_hit, answered-cases}
use Rattle.refusals.specs.Exactly.{clear}
use Rattle.controls.specs.Controls.{off_step}
use Rattle.session.specs.declared.{Session.Session}
use Rattle.entries.specs.declared.{Started.Started, Entered.Entered, Deleted.Deleted}
use Rattle.entries.specs.Entry.{started, start_checks, start_refused, start_done, entered, order_checks, order_refused, order_done, order_entered, deleted, delete_checks, delete_refused, delete_done}
use Rattle.session.specs.Sound.{legal_price, Sound, begun-sound, with-book-sound}

-- Start hands it on.
pub started-sound : (s : Session) (x : Start) → Sound s → Sound (started s x).session
unfolding started
started-sound s x sound =
    answered-cases (start_checks s x) (start_refused s) (start_done s x) (λ (r : Started Session). Sound r.session) (λ n h e. sound)
    (λ e. begun-sound s sound (clear (start_checks s x) tt e 3) (parameters_from x) (test-holds (is_start x) (clear (start_checks s x) tt e 1)))

-- an order of this number and member rests, so that its place is found
pub delete-room : (s : Session) (number member : ℕ) → 0 ≡ first_hit (delete_checks s number member) → place_of (is_of number member) s.book < places
delete-room s number member e =
    ltb-true (place_of (is_of number member) s.book) places
    (sym (any-resting (is_of number member) s.book) ∙ not-false (any (is_of number member) (resting s.book)) (clear (delete_checks s number member) tt e 11))

-- What an accepted entry is known to have.
pub record Accepted (s : Session) (e : Entry) : Type 0 where
  pub in-range : T (is_entry e)
  pub running : T (has_started s.phase)
  on_step : T (not (off_step s.parameters.table (limit_from e.limit)))
  number-left : s.given < max_number
  pub room : lowest_free s.book.taken < places

pub accepted : (s : Session) (e : Entry) → 0 ≡ first_hit (order_checks s e) → Accepted s e
accepted s e h =
    let rule = clear (order_checks s e) tt h in
    record {
      in-range = test-holds (is_entry e) (rule 1);
      running = test-holds (has_started s.phase) (rule 2);
      on_step = rw (rule 5) tt;
      number-left = leb-false max_number s.given (rule 9);
      room = lowest-free-room s.book.taken (eqb-false (count_taken s.book.taken) places (rule 10));
    }

-- a limit in range that is not off the step is legal
pub on-step-legal : (s : Session) (w : Limit) → T (is_limit w) → T (not (off_step s.parameters.table w)) → T (is_legal (legal_price s) w)
on-step-legal s Unlimited h k = tt
on-step-legal s (At p) h k = and_intro (is_price p.0) _ h (go (on_step s.parameters.table p.0) k)
  where
    go : (b : Bool) → T (not (not b)) → T b
    go true k = tt
    go false k = k

-- the order that an accepted entry asks for may rest
pub entered-order-sound : (s : Session) (e : Entry) → Accepted s e → SoundOrder (legal_price s) (s.given + 1) (order_entered s e)
entered-order-sound s e ok =
    let f = fields-hold e ok.in-range in
    record {
      numbered = omega arith;
      given-already = omega arith;
      of-member = f.member;
      open-quantity = f.quantity;
      limit-in-range = f.limit;
      limit-legal = on-step-legal s (limit_from e.limit) f.limit ok.on_step;
    }

-- Order hands it on.
pub entered-sound : (s : Session) (e : Entry) → Sound s → Sound (entered s e).session
unfolding entered
entered-sound s e sound = answered-cases (order_checks s e) (order_refused s) (order_done s e) (λ (r : Entered Session). Sound r.session) (λ n h i. sound) done
  where
    done : 0 ≡ first_hit (order_checks s e) → Sound (order_done s e).session
    done h =
        let ok = accepted s e h in
        with-book-sound s sound ok.running (s.given + 1) _ (omega (arith, ok.number-left))
        (stored-sound (legal_price s) s.given s.book sound.book-sound (lowest_free s.book.taken) ok.room (order_entered s e) (omega arith) (entered-order-sound s e ok) (λ p h i same. true≢false (sym same.second)))

-- Delete hands it on.
pub deleted-sound : (s : Session) (number member : ℕ) → Sound s → Sound (deleted s number member).session
unfolding deleted
deleted-sound s number member sound =
    answered-cases (delete_checks s number member) (delete_refused s) (delete_done s number member) (λ (r : Deleted Session). Sound r.session) (λ n h i. sound)
    (λ e. with-book-sound s sound (test-holds (has_started s.phase) (clear (delete_checks s number member) tt e 2)) s.given _ sound.numbers-left
    (cleared-sound (legal_price s) s.given s.book sound.book-sound (place_of (is_of number member) s.book) (delete-room s number member e)))
