-- Resting orders: the list that everything above the book speaks of.
use Rattle.std.specs.Prelude.{ℕ, zero, suc, ◌+◌, ◌≤◌, ◌<◌, Bool, true, false, cond, ◌&&◌, ◌≡◌, List, [], ◌∷◌, ◌++◌, eqb, get_or}
use Rattle.std.proofs.Math.Option.{Option, none, some}
use Rattle.std.proofs.Math.Path.{refl}
use Rattle.std.proofs.Common.{arith}
use Rattle.terms.specs.Bounds.{places}
use Rattle.terms.specs.Orders.{Resting}
use Rattle.book.specs.declared.Book.{Book}
use Rattle.places.specs.Places.{is_taken}
use Rattle.book.specs.Columns.{order_at, stored, cleared}

-- the order at a place, where it is taken
abbrev pub resting_at : Book → ℕ → List Resting
resting_at b place = cond (is_taken b.taken place) (order_at b place ∷ []) []

-- the orders that rest at the first n places, by place
unfoldable pub resting_to : Book → ℕ → List Resting
resting_to b zero = []
resting_to b (suc n) = resting_to b n ++ resting_at b n

abbrev pub resting : Book → List Resting
resting b = resting_to b places

-- this place, or what is found later
abbrev pub first_or : Bool → ℕ → ℕ → ℕ
first_or true found later = found
first_or false found later = later

-- the first of n places from one on that passes the test, or the place behind them
unfoldable pub first_of : (ℕ → Bool) → ℕ → ℕ → ℕ
first_of test place zero = place
first_of test place (suc n) = first_or (test place) place (first_of test (suc place) n)

-- a place whose resting order passes the test
abbrev pub rests_as : (Resting → Bool) → Book → ℕ → Bool
rests_as f b place = is_taken b.taken place && f (order_at b place)

-- the place of the first resting order that passes the test, or 512
abbrev pub place_of : (Resting → Bool) → Book → ℕ
place_of f b = first_of (rests_as f b) 0 places

-- an order of this number and this member
abbrev pub is_of : ℕ → ℕ → Resting → Bool
is_of number member o = eqb o.number number && eqb o.member member

-- .. over the columns: the place is taken and has this number and this member
abbrev pub is_sought : List ℕ → List ℕ → List ℕ → ℕ → ℕ → ℕ → Bool
is_sought taken numbers members number member place = is_taken taken place && (eqb (get_or numbers place 0) number && eqb (get_or members place 0) member)

abbrev pub place_in : List ℕ → List ℕ → List ℕ → ℕ → ℕ → ℕ → ℕ → ℕ
place_in taken numbers members number member = first_of (is_sought taken numbers members number member)

-- what a place holds after a change: the order that is left there, or nothing
abbrev pub put_back : Book → ℕ → Option Resting → Book
put_back b place none = cleared b place
put_back b place (some o) = stored b place o

abbrev pub changed_at : (Resting → Option Resting) → Book → ℕ → Book
changed_at change b place = cond (is_taken b.taken place) (put_back b place (change (order_at b place))) b

-- the book with every resting order of its first n places changed or gone, at its own place
unfoldable pub changed_to : (Resting → Option Resting) → Book → ℕ → Book
changed_to change b zero = b
changed_to change b (suc n) = changed_at change (changed_to change b n) n

abbrev pub changed : (Resting → Option Resting) → Book → Book
changed change b = changed_to change b places

-- one place on: this one is it, or it is further on, or there are no more
module _ (test : ℕ → Bool) (place : ℕ) where
  pub first-hit : (n : ℕ) → test place ≡ true → first_of test place (suc n) ≡ place
  unfolding first_of
  first-hit n h = rw h

  pub first-miss : (n : ℕ) → test place ≡ false → first_of test place (suc n) ≡ first_of test (suc place) n
  unfolding first_of
  first-miss n h = rw h

  pub first-end : first_of test place 0 ≡ place
  unfolding first_of
  first-end = refl

-- .. of tests that say the same of those places
pub first-same : (f g : ℕ → Bool) (n place : ℕ) → ((p : ℕ) → place ≤ p → p < place + n → f p ≡ g p) → first_of f place n ≡ first_of g place n
unfolding first_of
first-same f g zero place h = refl
first-same f g (suc n) place h = rw (h place (omega arith) (omega arith), first-same f g n (suc place) (λ p k l. h p (omega arith) (omega arith)))

-- the columns say what the orders say
pub place-in : (b : Book) (number member : ℕ) → place_in b.taken b.number b.member number member 0 places ≡ place_of (is_of number member) b
place-in b number member = refl
