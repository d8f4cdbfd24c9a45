use mathlib.Core.Path.{sym, ap, ◌∙◌}
use Prim.Native.Nat.{◌<◌}
use lib.ListN.{set}
use native.Mathlib.Omega.{arith}
use Rattle.terms.specs.Bounds.{places}
use Rattle.effects.specs.Effects.{order-place}
use Rattle.entries.specs.Entry.{control_reference}
use Rattle.book.specs.declared.Book.{Book}
use Rattle.session.specs.State.{with_book}
use Rattle.squares.specs.Square.{square_members}
use Rattle.desk.specs.declared.{Desk.Desk}
use Rattle.desk.specs.Desk.{is_beyond}
use Rattle.desk.specs.EntryCalls.{beyond-is, entering-as, entered_by, entered_by_lem, order_row}
use Rattle.desk.proofs.entering.order.Goals as goal
use Rattle.desk.proofs.entering.order.Goals.{In-Ok}

-- an accepted entry has a row of the square
row_small : (c : In-Ok) → c.row_of-row.result < square_members
row_small c = let a = c.args in
    rw c.row_of-row.ensures (order_row a.desk c.requires a.e (sym (rw (c.row_of-row.ensures, beyond-is a.desk c.requires a.e.member) at c.in-Ok.ensures)))

-- .. and a place
placed : (c : In-Ok) → c.in-Ok.c.place < places
placed c = let a = c.args in
    let s = a.desk.session in
    order-place s.phase s.parameters (control_reference s) (is_beyond a.desk a.e.member) s.given s.book.taken a.e (sym (rw (c.row_of-row.ensures, beyond-is a.desk c.requires a.e.member) at c.in-Ok.ensures))

pub row_of-row-requires : goal.row_of-row-requires
row_of-row-requires c = (c.requires.members-long, c.requires.few)

pub write-requires : goal.write-requires
write-requires c = placed (goal.at.write-requires c).In-Ok

pub overflow_cast-row : goal.overflow_cast-row
overflow_cast-row c = let h = row_small (goal.at.overflow_cast-row c).In-Ok in omega arith

pub put-requires : goal.put-requires
put-requires c = (omega arith, placed (goal.at.put-requires c).In-Ok)

pub offset_bounds-desk-row : goal.offset_bounds-desk-row
offset_bounds-desk-row c = let h = row_small (goal.at.offset_bounds-desk-row c).In-Ok in omega arith

pub bounds-desk-row : goal.bounds-desk-row
bounds-desk-row c = row_small (goal.at.bounds-desk-row c).In-Ok

pub count_with-requires : goal.count_with-requires
count_with-requires c = row_small (goal.at.count_with-requires c).In-Ok

pub returns-in-Err : goal.returns-in-Err
returns-in-Err c = let a = c.args in
    rw c.from.ensures (ap (entered_by a.desk a.e) (rw (c.row_of-row.ensures, beyond-is a.desk c.requires a.e.member) at c.in-Err.ensures) ∙ entered_by_lem a.desk a.e)

pub returns-in-Ok : goal.returns-in-Ok
returns-in-Ok c = let a = c.args in
    let session = ap (λ (b : Book). with_book a.desk.session c.in-Ok.c.given b) c.write.ensures in
    let rows = c.put.ensures in
    let desk = entering-as a.desk a.e.member (set a.desk.rows c.in-Ok.c.place) session c.row_of-row.ensures rows c.count_with.ensures in
    ap (λ (d : Desk). record { answer = 0; number = c.in-Ok.c.given; session = d }) desk
    ∙ ap (entered_by a.desk a.e) (rw (c.row_of-row.ensures, beyond-is a.desk c.requires a.e.member) at c.in-Ok.ensures)
    ∙ entered_by_lem a.desk a.e
