use mathlib.Core.Path.{◌≡◌, refl, sym, ap, ◌∙◌}
use lib.ListN.{get_or}
use Rattle.auction.proofs.TradingLaws.{asks-part}
use Rattle.desk.specs.declared.{Desk.Desk}
use Rattle.courses.specs.Course.{not-taking, result_by}
use Rattle.answers.specs.AuctionCalls.{leaves_as}
use Rattle.answers.proofs.AuctionCalls.{IsCourseNow, course-planned, course-priced, leaves_kept, leaves-taken}
use Rattle.squares.specs.Square.{added_none}
use Rattle.squares.specs.Naming.{renamed}
use Rattle.desk_auction.specs.AuctionCalls.{cleared-leaves, none-counted, TradedBy, list-room, placed, below, counted-by-numbers, cells-after}
use Rattle.desk_auction.specs.Auctions.{row_of_order}
use Rattle.desk_auction.proofs.auction.Goals as goal
use Rattle.desk_auction.proofs.auction.Goals.{in-TakesPlace, in_default}
use Rattle.desk_auction.proofs.auction.Goals.{After-planned-plan, After-traded-closed}

-- the course is the one that the session has now
course-is : (c : After-planned-plan) → let a = c.args in IsCourseNow a.desk.session c.requires.inner a.which a.list.now c.planned-plan.result.course
course-is c = let a = c.args in
    course-planned a.desk.session c.requires.inner a.which a.list.now c.planned-plan.ensures

-- what the trading by places leaves
traded-is : (c : After-traded-closed) → let a = c.args in let plan = c.planned-plan in
    TradedBy a.desk c.requires a.which a.list.now plan.result.course (course-planned a.desk.session c.requires.inner a.which a.list.now plan.ensures) c.in-TakesPlace.is
    plan.new.ranks plan.result.bids plan.result.asks plan.ensures.buys plan.ensures.sells c.traded-closed.result c.traded-closed.new.list
traded-is c = rw (asks-part c.planned-plan.result.bids c.planned-plan.result.asks c.planned-plan.new.ranks, c.price_of.ensures, c.quantity_of.ensures, c.place_column.ensures) at c.traded-closed.ensures

pub clear_trades-requires : goal.clear_trades-requires
clear_trades-requires c = let d = c.args.desk in
    let sound = c.requires in
    let takes = c.in-TakesPlace.is in
    let is = course-is (goal.at.clear_trades-requires c).After-planned-plan in
    let traded = traded-is (goal.at.clear_trades-requires c).After-traded-closed in
    let list = c.args.list.now in
    let which = c.args.which in
    let plan = c.planned-plan.result in
    let ranks = c.planned-plan.new.ranks in
    let buys = c.planned-plan.ensures.buys in
    let sells = c.planned-plan.ensures.sells in (
      sound.totals-long,
      list-room d sound which list plan.course is takes ranks plan.bids plan.asks buys sells c.traded-closed.result _ traded,
      sound.rows-small,
      placed d sound which list plan.course is takes ranks plan.bids plan.asks buys sells c.traded-closed.result _ traded,
      below d sound which list plan.course is takes ranks plan.bids plan.asks buys sells c.traded-closed.result _ traded,
    )

pub standing_after-after-requires : goal.standing_after-after-requires
standing_after-after-requires c = let a = c.args in
    course-priced a.desk.session c.requires.inner a.which a.list.now c.planned-plan.result.course (course-is (goal.at.standing_after-after-requires c).After-planned-plan)

pub returns : goal.returns
returns c = let a = c.args in
    let d = a.desk in
    let s = d.session in
    let sound = c.requires in
    let now = c.match-plan.desk in
    let plan = c.planned-plan.result in
    let course = plan.course in
    let is = course-is (goal.at.returns c).After-planned-plan in
    let ranks = c.planned-plan.new.ranks in
    let buys = c.planned-plan.ensures.buys in
    let sells = c.planned-plan.ensures.sells in
    let left = leaves_as c.answer_of.result c.result_of.result c.standing_after-after.result now.session c.match-plan.list in
    elim c.match-plan.branch [
      | in-TakesPlace w ↦
          let takes = w.in-TakesPlace.is in
          let closed = w.traded-closed.result in
          let traded : TradedBy d sound a.which a.list.now course is takes ranks plan.bids plan.asks buys sells closed w.traded-closed.new.list =
          rw (asks-part plan.bids plan.asks ranks, w.price_of.ensures, w.quantity_of.ensures, w.place_column.ensures) at w.traded-closed.ensures in
          let list : c.match-plan.list ≡ renamed (λ place. get_or s.book.number place 0) closed.count w.traded-closed.new.list = w.list-is ∙ w.clear_trades.ensures.1 in
          let counted : c.result_of.result.count ≡ (result_by course closed.count).count = rw (c.result_of.ensures, w.count-is) in
          cleared-leaves d sound a.which a.list.now left
          (leaves-taken s sound.inner a.which a.list.now course is now.session c.match-plan.count c.match-plan.list
          c.answer_of.result c.answer_of.ensures c.result_of.result c.result_of.ensures c.standing_after-after.result c.standing_after-after.ensures
          takes ranks plan.bids plan.asks buys sells w.settle.new.self (ap (λ (d : Desk). d.session) w.desk-is) closed w.count-is
          (counted-by-numbers d sound a.which a.list.now course is takes ranks plan.bids plan.asks buys sells closed w.traded-closed.new.list traded c.match-plan.list list)
          _ refl w.settle.ensures)
          now w.desk-is
          (rw counted (cells-after d sound a.which a.list.now course is takes ranks plan.bids plan.asks buys sells closed w.traded-closed.new.list traded c.match-plan.list list w.clear_trades.new.totals w.clear_trades.ensures.0))
      | in_default w ↦
          let stays = not-taking course w.in_default.not-TakesPlace in
          let counted : c.result_of.result.count ≡ 0 = rw (c.result_of.ensures, w.count-is) (none-counted course stays) in
          cleared-leaves d sound a.which a.list.now left
          (leaves_kept s sound.inner a.which a.list.now course is now.session c.match-plan.count c.match-plan.list
          c.answer_of.result c.answer_of.ensures c.result_of.result c.result_of.ensures c.standing_after-after.result c.standing_after-after.ensures
          stays (ap (λ (d : Desk). d.session) w.desk-is) w.count-is w.list-is)
          now {after = s} {totals = d.totals} w.desk-is (rw counted (sym (added_none (row_of_order d) refl d.totals)))
    ]
