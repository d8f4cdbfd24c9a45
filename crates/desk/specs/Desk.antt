-- A desk's state: the fresh one, and each way in which a call changes it (02 K5).
use Rattle.std.specs.Prelude.{ℕ, ◌+◌, Bool, cond, not, ◌&&◌, List, eqb, leb, set, take, replicate}
use Rattle.lists.specs.Choice.{any}
use Rattle.terms.specs.Bounds.{places}
use Rattle.squares.specs.Square.{square_members, square_cells, row_of}
use Rattle.session.specs.declared.{Session.Session}
use Rattle.session.specs.State.{fresh_session}
use Rattle.desk.specs.declared.{Desk.Desk}

-- around a session that has not started: nobody entered, nothing traded
abbrev pub fresh_desk : Desk
fresh_desk = record { session = fresh_session; members = replicate square_members 0; count = 0; rows = replicate places 0; totals = replicate square_cells 0 }

-- the members in the order of their first accepted entry, and the row of one
abbrev pub known : Desk → List ℕ
known d = take d.count d.members

abbrev pub row_in : Desk → ℕ → ℕ
row_in d member = row_of (known d) member

-- a thirty-third member: it is not entered, and the square is full
abbrev pub is_beyond : Desk → ℕ → Bool
is_beyond d member = not (any (λ m. eqb m member) (known d)) && leb square_members d.count

-- another session inside
abbrev pub with_session : Desk → Session → Desk
with_session d s = record { session = s; members = d.members; count = d.count; rows = d.rows; totals = d.totals }

-- how many are entered once a member with this row is
abbrev pub count_with : ℕ → ℕ → ℕ
count_with count row = cond (eqb row count) (row + 1) count

-- an accepted entry: its member is entered under its row, if it was not before, and its places have this row
abbrev pub entering : Desk → ℕ → Session → List ℕ → Desk
entering d member s rows =
    let row = row_in d member in
    record {
      session = s;
      members = set d.members row member;
      count = count_with d.count row;
      rows = rows;
      totals = d.totals;
    }

-- trades: the session after them, and other totals
abbrev pub with_totals : Desk → Session → List ℕ → Desk
with_totals d s totals = record { session = s; members = d.members; count = d.count; rows = d.rows; totals = totals }
