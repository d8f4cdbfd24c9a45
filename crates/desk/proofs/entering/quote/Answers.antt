use mathlib.Core.Path.{sym, ap, ◌∙◌}
use Prim.Native.Nat.{ℕ, ◌<◌}
use lib.ListN.{set}
use native.Mathlib.Omega.{arith}
use Rattle.terms.specs.Bounds.{places}
use Rattle.squares.specs.Square.{square_members}
use Rattle.book.specs.declared.Book.{Book}
use Rattle.session.specs.State.{with_book}
use Rattle.desk.specs.declared.{Desk.Desk}
use Rattle.desk.specs.EntryCalls.{beyond-is, entering-as, quoted_by, quoted-by, quote-row, quote-placed}
use Rattle.desk.proofs.entering.quote.Goals as goal
use Rattle.desk.proofs.entering.quote.Goals.{In-Ok}

-- an accepted entry has a row of the square, and two places
row_small : (c : In-Ok) → c.row_of-row.result < square_members
row_small c = let a = c.args in
    rw c.row_of-row.ensures (quote-row a.desk c.requires a.e (sym (rw (c.old_pair-old.ensures, c.row_of-row.ensures, beyond-is a.desk c.requires a.e.member) at c.in-Ok.ensures)))

placed : (c : In-Ok) → (c.in-Ok.c.fresh.bid < places) × (c.in-Ok.c.fresh.ask < places)
placed c = let a = c.args in
    quote-placed a.desk a.e (sym (rw (c.old_pair-old.ensures, c.row_of-row.ensures, beyond-is a.desk c.requires a.e.member) at c.in-Ok.ensures))

pub row_of-row-requires : goal.row_of-row-requires
row_of-row-requires c = (c.requires.members-long, c.requires.few)

pub requote-requires : goal.requote-requires
requote-requires c = placed (goal.at.requote-requires c).In-Ok

pub overflow_cast-row : goal.overflow_cast-row
overflow_cast-row c = let h = row_small (goal.at.overflow_cast-row c).In-Ok in omega arith

pub put-requires : goal.put-requires
put-requires c = (omega arith, (placed (goal.at.put-requires c).In-Ok).0)

pub overflow_cast-row-in-Ok : goal.overflow_cast-row-in-Ok
overflow_cast-row-in-Ok c = let h = row_small (goal.at.overflow_cast-row-in-Ok c).In-Ok in omega arith

pub put-requires-in-Ok : goal.put-requires-in-Ok
put-requires-in-Ok c = (omega arith, (placed (goal.at.put-requires-in-Ok c).In-Ok).1)

pub offset_bounds-desk-row : goal.offset_bounds-desk-row
offset_bounds-desk-row c = let h = row_small (goal.at.offset_bounds-desk-row c).In-Ok in omega arith

pub bounds-desk-row : goal.bounds-desk-row
bounds-desk-row c = row_small (goal.at.bounds-desk-row c).In-Ok

pub count_with-requires : goal.count_with-requires
count_with-requires c = row_small (goal.at.count_with-requires c).In-Ok

pub returns-in-Err : goal.returns-in-Err
returns-in-Err c = let a = c.args in
    rw c.from.ensures (ap (quoted_by a.desk a.e) (rw (c.old_pair-old.ensures, c.row_of-row.ensures, beyond-is a.desk c.requires a.e.member) at c.in-Err.ensures) ∙ quoted-by a.desk c.requires a.e)

pub returns-in-Ok : goal.returns-in-Ok
returns-in-Ok c = let a = c.args in
    let session = ap (λ (b : Book). with_book a.desk.session c.in-Ok.c.given b) c.requote.ensures in
    let rows = rw c.put.ensures at c.put-in-Ok.ensures in
    let desk = entering-as a.desk a.e.member (λ (row : ℕ). set (set a.desk.rows c.in-Ok.c.fresh.bid row) c.in-Ok.c.fresh.ask row) session c.row_of-row.ensures rows c.count_with.ensures in
    ap (λ (d : Desk). record { answer = 0; bid = c.in-Ok.c.bid.number; ask = c.in-Ok.c.ask.number; session = d }) desk
    ∙ ap (quoted_by a.desk a.e) (rw (c.old_pair-old.ensures, c.row_of-row.ensures, beyond-is a.desk c.requires a.e.member) at c.in-Ok.ensures)
    ∙ quoted-by a.desk c.requires a.e
