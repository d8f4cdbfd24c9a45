-- The ranked queue of a sound book, told by the ranks of its places.
use Prim.Native.Nat.{ℕ, zero, suc, ◌<◌}
use Rattle.std.specs.Prelude.{◌≡◌, get_or}
use Rattle.std.proofs.Math.Bool.{true}
use mathlib.Core.List.{List, [], ◌++◌}
use Rattle.terms.specs.Bounds.{places}
use Rattle.terms.specs.Orders.{Resting}
use Rattle.terms.specs.declared.orders.{Side.Side}
use Rattle.book.specs.declared.Book.{Book}
use Rattle.places.specs.Places.{is_taken}
use Rattle.book.specs.Resting.{resting_at}
use Rattle.queue.specs.RankNumbers.{rank_of, place_of_rank}

-- the orders that rest at n places from one on, by place
unfoldable pub resting_from : Book → ℕ → ℕ → List Resting
resting_from b place zero = []
resting_from b place (suc n) = resting_at b place ++ resting_from b (suc place) n

-- the rank of an order that rests
abbrev pub rank_at : Side → Book → ℕ → ℕ
rank_at s b p = rank_of s (get_or b.limit p 0) (get_or b.number p 0) p

-- what a rank says: the place of an order that rests, and its rank there
pub record RankOfBook (s : Side) (b : Book) (r : ℕ) : Type 0 where
  pub here : place_of_rank r < places
  pub taken : is_taken b.taken (place_of_rank r) ≡ true
  pub is : r ≡ rank_of s (get_or b.limit (place_of_rank r) 0) (get_or b.number (place_of_rank r) 0) (place_of_rank r)
