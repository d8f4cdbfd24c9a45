-- SoundDesk: the one stated property that a desk's promises may take for their premise. A fresh desk has it, and every call hands it on.
use Rattle.std.specs.Prelude.{ℕ, ◌+◌, ◌*◌, ◌≤◌, ◌<◌, ◌^◌, true, ◌≡◌, List, length, get_or}
use Rattle.std.proofs.Common.{arith}
use Rattle.terms.specs.Bounds.{places, max_quantity}
use Rattle.places.specs.Places.{is_taken}
use Rattle.book.specs.declared.{Book.Book}
use Rattle.squares.specs.Square.{square_members, square_cells, row_of, total, Small}
use Rattle.controls.specs.declared.phases.{Phase.Phase, Phase.TheVariants.Fresh, Phase.TheVariants.PreOpening, Phase.TheVariants.Day, Phase.TheVariants.Closed}
use Rattle.session.specs.Sound.{Sound}
use Rattle.desk.specs.declared.{Desk.Desk}
use Rattle.desk.specs.Desk.{known, row_in}

-- what one auction can trade at most, and a session by its phase: an opening leads to day, a closing ends it
abbrev pub auction_most : ℕ
auction_most = places * max_quantity

abbrev pub traded_most : Phase → ℕ
traded_most Fresh = 0
traded_most PreOpening = 0
traded_most Day = auction_most
traded_most Closed = auction_most + auction_most

-- a session can't trade so much that a sum wraps
pub far-below : (phase : Phase) → traded_most phase + auction_most < 2 ^ 64
far-below Fresh = omega arith
far-below PreOpening = omega arith
far-below Day = omega arith
far-below Closed = omega arith

-- each resting order's place has its member's row
abbrev pub RowsKnown : List ℕ → List ℕ → Book → Type 0
RowsKnown members rows b = (p : ℕ) → p < places → is_taken b.taken p ≡ true → (get_or rows p 0 ≡ row_of members (get_or b.member p 0)) × (get_or rows p 0 < length members)

pub record SoundDesk (d : Desk) : Type 0 where
  pub inner : Sound d.session
  pub members-long : length d.members ≡ square_members
  pub few : d.count ≤ square_members
  -- no member is entered twice
  pub in_order : (i : ℕ) → i < d.count → row_in d (get_or d.members i 0) ≡ i
  pub rows_long : length d.rows ≡ places
  pub rows-small : Small d.rows
  pub rows-known : RowsKnown (known d) d.rows d.session.book
  pub totals-long : length d.totals ≡ square_cells
  -- K5e: nothing wraps, for a session can't trade more
  pub within : total d.totals ≤ traded_most d.session.phase
