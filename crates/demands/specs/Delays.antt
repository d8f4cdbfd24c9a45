-- A delay is given once: after a Delayed Opening no call in any sequence answers outcome 4 again (B9).
use Rattle.std.specs.Prelude.{◌≡◌, List, [], ◌∷◌, length}
use Rattle.std.proofs.Math.Bool.{true}
use Rattle.std.proofs.Math.Path.{refl}
use Rattle.std.proofs.Common.{◌∙◌}
use Rattle.terms.specs.Orders.{auction_from}
use Rattle.terms.specs.declared.orders.{Auction.Auction}
use Rattle.auction.specs.declared.{Outcome.Outcome, Outcome.TheVariants.Traded, Outcome.TheVariants.NoTrade, Outcome.TheVariants.NonOpening, Outcome.TheVariants.Delayed}
use Rattle.session.specs.declared.{Session.Session}
use Rattle.entries.specs.declared.{Started.Started}
use Rattle.refusals.specs.Checks.{answered-cases}
use Rattle.entries.specs.Entry.{start_checks, start_refused, start_done, started}
use Rattle.answers.specs.Auctions.{AuctionLeaves, outcome_of, session_after, auction_checks, auction_refused, auction_done, auctioned}
use Rattle.session.specs.State.{part}
use Rattle.demands.specs.Sequences.{Act, Call, acted, run}
use Rattle.demands.specs.Outcomes.{others_keep}

-- the mark, once set, stays, and holds off another delay
mark-stays : (s : Session) (c : Act) → s.delayed ≡ true → (acted s c).delayed ≡ true
unfolding started auctioned
mark-stays s (Act.start x) e = answered-cases (start_checks s x) (start_refused s) (start_done s x) (λ (r : Started Session). r.session.delayed ≡ true) (λ n h i. e) (λ i. e)
mark-stays s (Act.order o) e = ((others_keep s).order o).1 ∙ e
mark-stays s (Act.delete number member) e = ((others_keep s).delete number member).1 ∙ e
mark-stays s (Act.quote q) e = ((others_keep s).quote q).1 ∙ e
mark-stays s (Act.auction which list) e =
    answered-cases (auction_checks s which (length list)) (auction_refused s list) (auction_done s (auction_from which) list) (λ (l : AuctionLeaves Session). l.returned.session.delayed ≡ true)
    (λ n h i. e) (λ i. outcomes (auction_from which) (outcome_of s (auction_from which)))
  where
    outcomes : (a : Auction) (o : Outcome) → (session_after s a (part s a) o).delayed ≡ true
    outcomes a (Traded price quantity) = e
    outcomes a NoTrade = e
    outcomes a NonOpening = e
    outcomes a (Delayed price quantity) = refl

pub marked-run : (s : Session) (cs : List Call) → s.delayed ≡ true → (run s cs).delayed ≡ true
marked-run s [] e = e
marked-run s (Call.act c ∷ cs) e = marked-run (acted s c) cs (mark-stays s c e)
marked-run s (Call.look l ∷ cs) e = marked-run s cs e
