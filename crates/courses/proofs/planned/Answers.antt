use Rattle.courses.specs.Course.{plan-refused, plan-found}
use Rattle.courses.proofs.planned.Goals as goal

pub returns-in-Err : goal.returns-in-Err
returns-in-Err c = let a = c.args in
    plan-refused a.which a.standing.phase a.size a.standing.delayed a.threshold.0 a.standing.reference.0 a.book.now.side a.book.now.validity a.book.now.limit a.book.now.number a.book.now.left (rw c.in-Err.is at c.asked.ensures) c.turned_down.result c.turned_down.ensures _

pub returns : goal.returns
returns c = let a = c.args in
    plan-found a.which a.standing.phase a.size a.standing.delayed a.threshold.0 a.standing.reference.0 a.book.now.side a.book.now.validity a.book.now.limit a.book.now.number a.book.now.left (rw c.in-Ok.is at c.asked.ensures) c.held.result.preventable c.held.result.delayable c.held.ensures.0 c.held.ensures.1
    c.outlook-view.result c.course_of.result c.outlook-view.new.ranks c.course_of.ensures (rw (c.number.ensures, c.number-2.ensures) at c.outlook-view.ensures)
