-- The theoretical answer: what the call returns, refusals included.
use Rattle.std.specs.Prelude.{ℕ, List}
use Rattle.terms.specs.Orders.{auction_from}
use Rattle.terms.specs.declared.orders.{Auction.Auction}
use Rattle.refusals.specs.Checks.{Check, answered}
use Rattle.refusals.specs.Rows.{theoretical_rows}
use Rattle.session.specs.declared.{Session.Session}
use Rattle.session.specs.State.{part}
use Rattle.courses.specs.Answer.{no_answer, answer_of}
use Rattle.answers.specs.Auctions.{outcome_of}
use Rattle.foresight.specs.declared.{Foreseen.Foreseen}

-- Theoretical answer: 1, 2, 4. The same four numbers with no change.
abbrev pub theoretical_checks : Session → ℕ → List Check
theoretical_checks s which = theoretical_rows s.phase which

abbrev pub theoretical_refused : ℕ → Foreseen
theoretical_refused n = record { answer = n; result = no_answer }

abbrev pub theoretical_done : Session → Auction → Foreseen
theoretical_done s a = record { answer = 0; result = answer_of (outcome_of s a) (part s a) }

unfoldable pub theoretical : Session → ℕ → Foreseen
theoretical s which = answered (theoretical_checks s which) theoretical_refused (theoretical_done s (auction_from which))
