-- A sound book: places and occupancy agree, free places hold the empty values, and what rests is in range.
use Rattle.std.specs.Prelude.{ℕ, ◌≤◌, ◌<◌, Bool, true, false, ◌≢◌, ◌⊎◌, ◌≡◌, refl, T, eqb}
use Rattle.std.proofs.Common.{true≢false, inl, inr, ⊎_elim, sym, ap, subst, ◌∙◌, arith, eqb-true}
use Rattle.std.proofs.lemmas.Bool.{eqb-false}
use Rattle.std.proofs.lemmas.List.{length-replicate, get_or-replicate}
use Rattle.terms.specs.Bounds.{places}
use Rattle.terms.specs.Kinds.{is_member, is_quantity}
use Rattle.terms.specs.Orders.{Resting, is_limit, is_legal}
use Rattle.book.specs.declared.Book.{Book}
use Rattle.places.specs.Places.{word_count, is_taken}
use Rattle.places.specs.Words.{zeros-free}
use Rattle.book.specs.Columns.{values_at, values_of, order_from, order_at, empty_values, empty_book, stored, cleared}
use Rattle.book.specs.Writing.{Sized, SameAt, stored-taken, stored-raw, stored-order, stored-elsewhere, stored-sized, cleared-free, cleared-raw, cleared-elsewhere, cleared-sized}

-- an order that may rest: its number among those given, its other fields in range, its limit a legal price
pub record SoundOrder (legal : ℕ → Bool) (given : ℕ) (o : Resting) : Type 0 where
  pub numbered : 0 < o.number
  pub given-already : o.number ≤ given
  pub of-member : T (is_member o.member)
  pub open-quantity : T (is_quantity o.left)
  pub limit-in-range : T (is_limit o.limit)
  pub limit-legal : T (is_legal legal o.limit)

-- a free place holds the empty values; a taken one holds an order that may rest, in the numbers of 01
pub record SoundPlace (legal : ℕ → Bool) (given : ℕ) (b : Book) (p : ℕ) : Type 0 where
  pub free : is_taken b.taken p ≡ false → values_at b p ≡ empty_values
  pub coded : is_taken b.taken p ≡ true → values_of (order_at b p) ≡ values_at b p
  pub rests : is_taken b.taken p ≡ true → SoundOrder legal given (order_at b p)

-- two orders that are the same side of one member's quotes
pub record SameQuote (o x : Resting) : Type 0 where
  pub first : o.quoted ≡ true
  pub second : x.quoted ≡ true
  pub member : o.member ≡ x.member
  pub side : o.side ≡ x.side

-- two orders under one number
abbrev pub SameNumber : Resting → Resting → Type 0
SameNumber o x = o.number ≡ x.number

-- no two places hold orders that are related so
abbrev pub AtOnePlace : (Resting → Resting → Type 0) → Book → Type 0
AtOnePlace R b = (p q : ℕ) → p < places → q < places → is_taken b.taken p ≡ true → is_taken b.taken q ≡ true → R (order_at b p) (order_at b q) → p ≡ q

pub record SoundBook (legal : ℕ → Bool) (given : ℕ) (b : Book) : Type 0 where
  pub sized : Sized b
  pub each : (p : ℕ) → p < places → SoundPlace legal given b p
  -- no number at two places
  pub once : AtOnePlace SameNumber b
  -- K2b: of each member at most one resting buy and one resting sell are sides of a quote
  pub one-quote : AtOnePlace SameQuote b

-- every place of the empty book is free
pub empty-sound : (legal : ℕ → Bool) (given : ℕ) → SoundBook legal given empty_book
empty-sound legal given = record {
  sized = record {
    taken = length-replicate {A = ℕ} word_count 0;
    number = length-replicate {A = ℕ} places 0;
    member = length-replicate {A = ℕ} places 0;
    side = length-replicate {A = ℕ} places 0;
    validity = length-replicate {A = ℕ} places 0;
    left = length-replicate {A = ℕ} places 0;
    limit = length-replicate {A = ℕ} places 0;
    quoted = length-replicate {A = ℕ} places 0;
  };
  each = λ p h. record { free = λ e. simp get_or-replicate; coded = λ e. absurd (never p e); rests = λ e. absurd (never p e) };
  once = λ p q h k e f i. absurd (never p e);
  one-quote = λ p q h k e f i. absurd (never p e);
}
  where
    never : (p : ℕ) → is_taken empty_book.taken p ≡ true → ⊥
    never p e = true≢false (sym e ∙ zeros-free word_count p)

-- one place or another
pub same_or_not : (p q : ℕ) → (p ≡ q) ⊎ (p ≢ q)
same_or_not p q = go (eqb p q) refl
  where
    go : (b : Bool) → eqb p q ≡ b → (p ≡ q) ⊎ (p ≢ q)
    go true e = inl (eqb-true p q e)
    go false e = inr (eqb-false p q e)

-- later numbers don't spoil an order
later-order : (legal : ℕ → Bool) (given later : ℕ) → given ≤ later → (o : Resting) → SoundOrder legal given o → SoundOrder legal later o
later-order legal given later wait o s = record {
  numbered = s.numbered;
  given-already = omega (arith, s.given-already);
  of-member = s.of-member;
  open-quantity = s.open-quantity;
  limit-in-range = s.limit-in-range;
  limit-legal = s.limit-legal;
}

-- A sound book that is changed at one place is sound, where that place is, and where its number, and its side of a quote, is at no other.
module _ (legal : ℕ → Bool) (given later : ℕ) (wait : given ≤ later) (b c : Book) (sound : SoundBook legal given b) (place : ℕ) (sized : Sized c) (same : (p : ℕ) → p ≢ place → SameAt c b p) where
  -- what is known of another place
  taken-before : (p : ℕ) → p ≢ place → is_taken c.taken p ≡ true → is_taken b.taken p ≡ true
  taken-before p n e = sym (same p n).0 ∙ e

  order-before : (p : ℕ) → p ≢ place → order_at c p ≡ order_at b p
  order-before p n = ap order_from (same p n).1

  elsewhere : (p : ℕ) → p < places → p ≢ place → SoundPlace legal later c p
  elsewhere p h n = record {
    free = λ e. (same p n).1 ∙ (sound.each p h).free (sym (same p n).0 ∙ e);
    coded = λ e. ap values_of (order-before p n) ∙ (sound.each p h).coded (taken-before p n e) ∙ sym (same p n).1;
    rests = λ e. rw (order-before p n) (later-order legal given later wait (order_at b p) ((sound.each p h).rests (taken-before p n e)));
  }

  -- an order that is related so to the one at the changed place
  abbrev pub NewAt : (Resting → Resting → Type 0) → Type 0
  NewAt R = (p : ℕ) → p ≢ place → p < places → is_taken b.taken p ≡ true → is_taken c.taken place ≡ true → R (order_at b p) (order_at c place) → ⊥

  module _ (R : Resting → Resting → Type 0) (turned : (o x : Resting) → R o x → R x o) (before : AtOnePlace R b) (new : NewAt R) where
    -- two places, one of which is the changed one
    apart_from : (p : ℕ) → p ≢ place → p < places → is_taken c.taken p ≡ true → is_taken c.taken place ≡ true → R (order_at c p) (order_at c place) → ⊥
    apart_from p n h e f i = new p n h (taken-before p n e) f (subst (λ (o : Resting). R o (order_at c place)) (order-before p n) i)

    still-at-one : AtOnePlace R c
    still-at-one p q h k e f i =
        ⊎_elim
        (λ at_p. ⊎_elim
        (λ at-q. at_p ∙ sym at-q)
        (λ n. absurd (apart_from q n k f (subst (λ (x : ℕ). is_taken c.taken x ≡ true) at_p e) (subst (λ (x : ℕ). R (order_at c q) (order_at c x)) at_p (turned _ _ i))))
        (same_or_not q place))
        (λ m. ⊎_elim
        (λ at-q. absurd (apart_from p m h e (subst (λ (x : ℕ). is_taken c.taken x ≡ true) at-q f) (subst (λ (x : ℕ). R (order_at c p) (order_at c x)) at-q i)))
        (λ n. before p q h k (taken-before p m e) (taken-before q n f)
        (subst (λ (o : Resting). R (order_at b p) o) (order-before q n) (subst (λ (o : Resting). R o (order_at c q)) (order-before p m) i)))
        (same_or_not q place))
        (same_or_not p place)

  pub changed-sound : SoundPlace legal later c place → NewAt SameNumber → NewAt SameQuote → SoundBook legal later c
  changed-sound there new-number new-quote = record {
    sized = sized;
    each = λ p h. ⊎_elim (λ i. rw i there) (λ n. elsewhere p h n) (same_or_not p place);
    once = still-at-one SameNumber (λ o x i. sym i) sound.once new-number;
    one-quote = still-at-one SameQuote (λ o x i. record { first = i.second; second = i.first; member = sym i.member; side = sym i.side }) sound.one-quote new-quote;
  }

-- no resting order is the same side of a quote as this one
abbrev pub NoQuoteAs : Book → Resting → Type 0
NoQuoteAs b o = (p : ℕ) → p < places → is_taken b.taken p ≡ true → SameQuote (order_at b p) o → ⊥

-- A free place takes an order with a number above all that were given, and that is no second side of a quote.
pub stored-sound : (legal : ℕ → Bool) (given : ℕ) (b : Book) → SoundBook legal given b → (place : ℕ) → place < places → (o : Resting) → given < o.number → SoundOrder legal o.number o
    → NoQuoteAs b o → SoundBook legal o.number (stored b place o)
stored-sound legal given b sound place here o above good alone =
    changed-sound legal given o.number (omega arith) b (stored b place o) sound place (stored-sized b sound.sized place here o) (stored-elsewhere b sound.sized place here o)
    (record {
      free = λ e. absurd (true≢false (sym (stored-taken b sound.sized place here o) ∙ e));
      coded = λ e. ap values_of back ∙ sym (stored-raw b sound.sized place here o);
      rests = λ e. rw back good;
    })
    (λ p n h e f i. let least = ((sound.each p h).rests e).given-already in let same = i ∙ ap (λ (x : Resting). x.number) back in omega arith)
    (λ p n h e f i. alone p h e (subst (λ (x : Resting). SameQuote (order_at b p) x) back i))
  where
    back : order_at (stored b place o) place ≡ o
    back = stored-order b sound.sized place here o good.limit-in-range

-- Any place may be cleared.
pub cleared-sound : (legal : ℕ → Bool) (given : ℕ) (b : Book) → SoundBook legal given b → (place : ℕ) → place < places → SoundBook legal given (cleared b place)
cleared-sound legal given b sound place here =
    changed-sound legal given given (omega arith) b (cleared b place) sound place (cleared-sized b sound.sized place here) (cleared-elsewhere b sound.sized place here)
    (record {
      free = λ e. cleared-raw b sound.sized place here;
      coded = λ e. absurd (never e);
      rests = λ e. absurd (never e);
    })
    (λ p n h e f i. never f)
    (λ p n h e f i. never f)
  where
    never : is_taken (cleared b place).taken place ≡ true → ⊥
    never e = true≢false (sym e ∙ cleared-free b sound.sized place here)
