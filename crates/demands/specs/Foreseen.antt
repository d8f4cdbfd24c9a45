-- The theoretical answer foresees the auction's (B10).
use Rattle.std.specs.Prelude.{ℕ, zero, suc, ◌≤◌, ◌≡◌, refl, List, length}
use Rattle.std.proofs.Common.{le-ltb}
use Rattle.terms.specs.Bounds.{trade_list_length}
use Rattle.terms.specs.Orders.{auction_from}
use Rattle.session.specs.declared.{Session.Session}
use Rattle.refusals.specs.Checks.{first_hit, answered_by}
use Rattle.answers.specs.Auctions.{auction_checks, auction_refused, auction_done, auctioned}
use Rattle.foresight.specs.Theoretical.{theoretical_checks, theoretical_refused, theoretical_done, theoretical}

-- on a list that is long enough the auction's checks are those of the theoretical answer
same-checks : (s : Session) (which : ℕ) (list : List ℕ) → trade_list_length ≤ length list → first_hit (auction_checks s which (length list)) ≡ first_hit (theoretical_checks s which)
unfolding first_hit
same-checks s which list long = rw (le-ltb (length list) trade_list_length long)

-- B10. The theoretical answer is what the auction would answer at that moment, on any list that is long enough. It returns no session and is
-- lent no list, so that nothing changes.
pub record Foresees (s : Session) (which : ℕ) (list : List ℕ) : Type 0 where
  pub answer : (theoretical s which).answer ≡ (auctioned s which list).returned.answer
  pub result : (theoretical s which).result ≡ (auctioned s which list).returned.result

pub theoretical-foresees : (s : Session) (which : ℕ) (list : List ℕ) → trade_list_length ≤ length list → Foresees s which list
unfolding theoretical auctioned
theoretical-foresees s which list long =
    let (answer, result) = go (first_hit (theoretical_checks s which)) in
    record { answer = rw (same-checks s which list long) answer; result = rw (same-checks s which list long) result }
  where
    go : (n : ℕ)
        → ((answered_by n theoretical_refused (theoretical_done s (auction_from which))).answer ≡ (answered_by n (auction_refused s list) (auction_done s (auction_from which) list)).returned.answer)
        × ((answered_by n theoretical_refused (theoretical_done s (auction_from which))).result ≡ (answered_by n (auction_refused s list) (auction_done s (auction_from which) list)).returned.result)
    go zero = (refl, refl)
    go (suc n) = (refl, refl)
