use Prim.Native.Nat.{◌+◌}
use mathlib.Core.Bool.{true, false}
use mathlib.Core.Path.{◌≡◌, sym, ◌∙◌}
use lib.Dec.{ltb}
use lib.ListN.{length}
use borrow.Author.Tests.{not-true, not-false}
use Rattle.records.specs.Fields.{in_range}
use Rattle.records.specs.Bytes.{length_of}
use Rattle.writer.proofs.WriteCall.{write-out-of-range, write-too-long, write_done_lem}
use Rattle.writer.proofs.write_record.Goals as goal
use Rattle.writer.proofs.write_record.Goals.{Else-not-has_room, Else-not-in_range}

-- the record is in range
good : (c : Else-not-in_range) → in_range c.args.«record» ≡ true
good c = sym c.in_range.ensures ∙ c.if-not-in_range.false

-- .. and the buffer holds it
room : (c : Else-not-has_room) → ltb (length c.args.buffer.now) (c.args.place + length_of c.args.«record») ≡ false
room c = not-true _ (sym (rw c.length_of.ensures at c.has_room.ensures) ∙ c.if-not-has_room.false)

pub returns-then-not-in_range : goal.returns-then-not-in_range
returns-then-not-in_range c = let a = c.args in
    rw c.from-answer.ensures (write-out-of-range a.«record» a.buffer.now a.place (sym c.in_range.ensures ∙ c.if-not-in_range.true))

pub returns-then-not-has_room : goal.returns-then-not-has_room
returns-then-not-has_room c = let a = c.args in
    rw c.from-answer-then-not-has_room.ensures (write-too-long a.«record» a.buffer.now a.place (good (goal.at.returns-then-not-has_room c).Else-not-in_range) (not-false _ (sym (rw c.length_of.ensures at c.has_room.ensures) ∙ c.if-not-has_room.true)))

pub returns : goal.returns
returns c = let a = c.args in
    write_done_lem a.«record» a.buffer.now a.place (good (goal.at.returns c).Else-not-in_range) (room (goal.at.returns c).Else-not-has_room) c.put_record-next.ensures
