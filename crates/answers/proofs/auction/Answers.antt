use mathlib.Core.Path.{refl, ◌∙◌}
use Rattle.auction.proofs.TradingLaws.{asks-part}
use Rattle.courses.specs.Course.{not-taking}
use Rattle.answers.proofs.AuctionCalls.{IsCourseNow, course-planned, course-priced, leaves_kept, leaves-taken}
use Rattle.answers.proofs.auction.Goals as goal
use Rattle.answers.proofs.auction.Goals.{in-TakesPlace, in_default}
use Rattle.answers.proofs.auction.Goals.{After-planned-plan}

-- the course is the one that the session has now
course-is : (c : After-planned-plan) → let a = c.args in IsCourseNow a.session c.requires a.which a.list.now c.planned-plan.result.course
course-is c = let a = c.args in
    course-planned a.session c.requires a.which a.list.now c.planned-plan.ensures

pub standing_after-after-requires : goal.standing_after-after-requires
standing_after-after-requires c = let a = c.args in
    course-priced a.session c.requires a.which a.list.now c.planned-plan.result.course (course-is (goal.at.standing_after-after-requires c).After-planned-plan)

pub returns : goal.returns
returns c = let a = c.args in
    let plan = c.planned-plan.result in
    let ranks = c.planned-plan.new.ranks in
    let is = course-is (goal.at.returns c).After-planned-plan in
    elim c.match-plan.branch [
      | in-TakesPlace w ↦ leaves-taken a.session c.requires a.which a.list.now plan.course is c.match-plan.session c.match-plan.count c.match-plan.list
          c.answer_of.result c.answer_of.ensures c.result_of.result c.result_of.ensures c.standing_after-after.result c.standing_after-after.ensures
          w.in-TakesPlace.is ranks plan.bids plan.asks c.planned-plan.ensures.buys c.planned-plan.ensures.sells
          w.settle.new.self w.session-is w.traded-closed.result w.count-is (let e = rw (asks-part plan.bids plan.asks ranks, w.price_of.ensures, w.quantity_of.ensures) at w.traded-closed.ensures in (e.0, e.1, λ h. w.list-is ∙ e.2 h)) _ refl w.settle.ensures
      | in_default w ↦ leaves_kept a.session c.requires a.which a.list.now plan.course is c.match-plan.session c.match-plan.count c.match-plan.list
          c.answer_of.result c.answer_of.ensures c.result_of.result c.result_of.ensures c.standing_after-after.result c.standing_after-after.ensures
          (not-taking plan.course w.in_default.not-TakesPlace) w.session-is w.count-is w.list-is
    ]
