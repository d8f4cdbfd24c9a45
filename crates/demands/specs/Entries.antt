-- Entry and deletion: what rests afterwards (B2), and the places (B3).
use Rattle.std.specs.Prelude.{ℕ, ◌+◌, ◌<◌, true, false, ◌⊎◌, ◌↔◌, ◌≢◌, ◌≡◌, refl, List, T, eqb}
use Rattle.std.proofs.Common.{sym, ap, ◌∙◌, eqb→eq}
use Rattle.lists.specs.Tests.{and_both}
use Rattle.lists.specs.Sums.{◌∈◌, counted}
use Rattle.terms.specs.Bounds.{places}
use Rattle.terms.proofs.Made.{fields-hold, side-number, validity-number, limit-number}
use Rattle.terms.specs.Orders.{Resting, side_number, validity_number, limit_number}
use Rattle.terms.specs.declared.orders.{Entry.Entry}
use Rattle.places.specs.Places.{is_taken, lowest_free, count_taken, total}
use Rattle.places.specs.Words.{lowest-free-clear, lowest-free-least, count-is-taken}
use Rattle.book.specs.Columns.{order_from, order_at}
use Rattle.book.specs.Writing.{stored-order, stored-elsewhere, cleared-elsewhere}
use Rattle.book.specs.Resting.{resting, place_of, is_of}
use Rattle.book.specs.ByPlace.{place_found}
use Rattle.book.specs.Additions.{stored-resting, cleared-resting}
use Rattle.session.specs.declared.{Session.Session}
use Rattle.entries.specs.declared.Entered.{Entered as Returned}
use Rattle.entries.specs.declared.Deleted.{Deleted as Removed}
use Rattle.refusals.specs.Checks.{first_hit, answered-done}
use Rattle.entries.specs.Entry.{order_checks, order_refused, order_done, order_entered, entered, entered_session, delete_checks, delete_refused, delete_done, deleted, deleted_session}
use Rattle.session.specs.Sound.{legal_price, Sound}
use Rattle.entries.specs.SoundAfter.{accepted, delete-room}
use Rattle.demands.specs.Answers.{order-answer, delete-answer}

-- B3. The lowest free place is the first whose bit is 0, and the count is that of the taken places.
pub record LowestFree (words : List ℕ) : Type 0 where
  pub below-taken : (p : ℕ) → p < lowest_free words → is_taken words p ≡ true
  pub itself-free : lowest_free words < places → is_taken words (lowest_free words) ≡ false
  pub count : count_taken words ≡ total (λ p. counted (is_taken words p) 1) places

pub lowest-free : (words : List ℕ) → LowestFree words
lowest-free words = record { below-taken = lowest-free-least words; itself-free = lowest-free-clear words; count = count-is-taken words }

-- the order that an accepted entry enters: under the next number, each field as the entry has it, and no side of a quote
pub record AsAsked (number : ℕ) (e : Entry) (o : Resting) : Type 0 where
  pub numbered : o.number ≡ number
  pub member : o.member ≡ e.member
  pub side : side_number o.side ≡ e.side
  pub validity : validity_number o.validity ≡ e.validity
  pub left : o.left ≡ e.quantity
  pub limit : limit_number o.limit ≡ e.limit
  pub not-quoted : o.quoted ≡ false

-- B2. An accepted order: those that rested and the new one, under the next number, at the lowest free place, and all other places as before.
pub record Entered (s : Session) (e : Entry) : Type 0 where
  pub asked : AsAsked (s.given + 1) e (order_entered s e)
  pub session-after : (entered s e).session ≡ entered_session s e
  pub rests : (x : Resting) → (x ∈ resting (entered_session s e).book) ↔ ((x ∈ resting s.book) ⊎ (x ≡ order_entered s e))
  pub at-lowest : order_at (entered_session s e).book (lowest_free s.book.taken) ≡ order_entered s e
  pub elsewhere : (p : ℕ) → p ≢ lowest_free s.book.taken → order_at (entered_session s e).book p ≡ order_at s.book p

entered-after : (s : Session) (e : Entry) → 0 ≡ first_hit (order_checks s e) → (entered s e).session ≡ entered_session s e
unfolding entered
entered-after s e h = ap (λ (r : Returned Session). r.session) (sym (answered-done (order_checks s e) (order_refused s) (order_done s e) h))

pub accepted-entry : (s : Session) (e : Entry) → Sound s → (entered s e).answer ≡ 0 → Entered s e
accepted-entry s e sound done =
    let h = sym done ∙ order-answer s e in
    let ok = accepted s e h in
    let fields = fields-hold e ok.in-range in
    let sized = sound.book-sound.sized in
    let free = lowest-free-clear s.book.taken ok.room in
    let place = lowest_free s.book.taken in
    record {
      asked = record {
        numbered = refl;
        member = refl;
        side = side-number e.side fields.side;
        validity = validity-number e.validity fields.validity;
        left = refl;
        limit = limit-number e.limit;
        not-quoted = refl;
      };
      session-after = entered-after s e h;
      rests = stored-resting s.book sized place ok.room free (order_entered s e) fields.limit;
      at-lowest = stored-order s.book sized place ok.room (order_entered s e) fields.limit;
      elsewhere = λ p n. ap order_from (stored-elsewhere s.book sized place ok.room (order_entered s e) p n).1;
    }

-- An accepted deletion: those that rested, but for the one with the number, and all other places as before.
pub record Deleted (s : Session) (number member : ℕ) : Type 0 where
  pub session-after : (deleted s number member).session ≡ deleted_session s number member
  pub was-there : T (is_of number member (order_at s.book (place_of (is_of number member) s.book)))
  pub rests : (x : Resting) → (x ∈ resting (deleted_session s number member).book) ↔ ((x ∈ resting s.book) × (x.number ≢ number))
  pub elsewhere : (p : ℕ) → p ≢ place_of (is_of number member) s.book → order_at (deleted_session s number member).book p ≡ order_at s.book p

deleted-after : (s : Session) (number member : ℕ) → 0 ≡ first_hit (delete_checks s number member) → (deleted s number member).session ≡ deleted_session s number member
unfolding deleted
deleted-after s number member h = ap (λ (r : Removed Session). r.session) (sym (answered-done (delete_checks s number member) (delete_refused s) (delete_done s number member) h))

pub accepted-deletion : (s : Session) (number member : ℕ) → Sound s → (deleted s number member).answer ≡ 0 → Deleted s number member
accepted-deletion s number member sound done =
    let h = sym done ∙ delete-answer s number member in
    let place = place_of (is_of number member) s.book in
    let room = delete-room s number member h in
    let (taken, found) = place_found (is_of number member) s.book room in
    let same : (order_at s.book place).number ≡ number = eqb→eq (order_at s.book place).number number (and_both (eqb (order_at s.book place).number number) _ found).0 in
    record {
      session-after = deleted-after s number member h;
      was-there = found;
      rests = rw same at (cleared-resting (legal_price s) s.given s.book sound.book-sound place room taken);
      elsewhere = λ p n. ap order_from (cleared-elsewhere s.book sound.book-sound.sized place room p n).1;
    }
