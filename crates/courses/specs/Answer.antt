-- The four numbers that an auction and the theoretical answer give (01 "Outcomes").
use Rattle.std.specs.Prelude.{ℕ, List}
use Rattle.terms.specs.Orders.{Resting}
use Rattle.auction.specs.declared.{Outcome.Outcome, Outcome.TheVariants.Traded, Outcome.TheVariants.NoTrade, Outcome.TheVariants.NonOpening, Outcome.TheVariants.Delayed}
use Rattle.auction.specs.Outcome.{outcome_number, price_answered, quantity_answered, count_answered}
use Rattle.courses.specs.declared.{AuctionAnswer.AuctionAnswer}

abbrev pub no_answer : AuctionAnswer
no_answer = record { outcome = 0; price = 0; quantity = 0; count = 0 }

abbrev pub answer_of : Outcome → List Resting → AuctionAnswer
answer_of o book = record { outcome = outcome_number o; price = price_answered o; quantity = quantity_answered o; count = count_answered o book }

-- the four numbers of an outcome with its trades counted
abbrev pub answer_with : Outcome → ℕ → AuctionAnswer
answer_with (Traded price quantity) count = record { outcome = 1; price = price; quantity = quantity; count = count }
answer_with NoTrade count = record { outcome = 2; price = 0; quantity = 0; count = 0 }
answer_with NonOpening count = record { outcome = 3; price = 0; quantity = 0; count = 0 }
answer_with (Delayed price quantity) count = record { outcome = 4; price = price; quantity = quantity; count = 0 }
