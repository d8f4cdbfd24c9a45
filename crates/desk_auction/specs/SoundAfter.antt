-- An auction hands SoundDesk on: orders leave, and its trades are no more than the phase it leads to allows (A3, K5e).
use Rattle.std.specs.Prelude.{ℕ, ◌+◌, ◌≤◌, ◌≡◌, refl, List, [], T, length}
use Rattle.std.proofs.Common.{◌∙◌, arith}
use Rattle.lists.specs.Tests.{test-holds}
use Rattle.terms.specs.Orders.{auction_from}
use Rattle.terms.specs.declared.orders.{Auction.Auction, Auction.TheVariants.Opening, Auction.TheVariants.Closing}
use Rattle.book.specs.Resting.{changed}
use Rattle.trades.specs.declared.{Trade.Trade}
use Rattle.trades.specs.Trades.{volume}
use Rattle.trades.specs.Written.{trades_read, trades_written}
use Rattle.trades.proofs.Written.{trades-back}
use Rattle.auction.specs.declared.{Outcome.Outcome, Outcome.TheVariants.Traded, Outcome.TheVariants.NoTrade, Outcome.TheVariants.NonOpening, Outcome.TheVariants.Delayed}
use Rattle.auction.specs.Outcome.{trades, price_answered, count_answered}
use Rattle.auction.specs.After.{rest_of}
use Rattle.auction.proofs.AfterLaws.{rest-keeps}
use Rattle.controls.specs.declared.phases.{Phase.Phase, Phase.TheVariants.Fresh, Phase.TheVariants.PreOpening, Phase.TheVariants.Day, Phase.TheVariants.Closed}
use Rattle.controls.specs.Phases.{allows_auction, phase_after}
use Rattle.refusals.specs.Checks.{answered-cases}
use Rattle.refusals.specs.Exactly.{clear}
use Rattle.session.specs.declared.{Session.Session}
use Rattle.session.specs.Sound.{legal_price}
use Rattle.session.specs.State.{part}
use Rattle.answers.specs.Auctions as plain
use Rattle.answers.proofs.SoundAfter.{auctioned-sound}
use Rattle.answers.proofs.AuctionCalls.{traded-within}
use Rattle.squares.specs.Square.{total, added_to, all-added-length, all-added-most}
use Rattle.desk.specs.declared.{Desk.Desk}
use Rattle.desk.specs.Desk.{known}
use Rattle.desk.specs.Sound.{SoundDesk, RowsKnown, auction_most, traded_most}
use Rattle.desk.specs.RowsKept.{rows-fewer, changed-fewer}
use Rattle.desk.specs.SoundAfter.{with-totals-sound}
use Rattle.desk_auction.specs.Auctions.{row_of_order, trades_listed, auctioned}

-- an auction leads to a phase in which as much more may have been traded as it can trade
goes_on : (phase : Phase) (a : Auction) → T (allows_auction phase a) → traded_most phase + auction_most ≤ traded_most (phase_after a)
goes_on Fresh Opening h = absurd h
goes_on Fresh Closing h = absurd h
goes_on PreOpening Opening h = omega arith
goes_on PreOpening Closing h = absurd h
goes_on Day Opening h = absurd h
goes_on Day Closing h = omega arith
goes_on Closed Opening h = absurd h
goes_on Closed Closing h = absurd h

-- what the session is known to be after an auction, and what the trades listed come to
abbrev Leaves : Desk → plain.AuctionLeaves Session → Type 0
Leaves d l =
    RowsKnown (known d) d.rows l.returned.session.book
    × (total d.totals + volume (trades_listed l) ≤ traded_most l.returned.session.phase)

module _ (d : Desk) (sound : SoundDesk d) (a : Auction) (list : List ℕ) (allowed : T (allows_auction d.session.phase a)) where
  abbrev s : Session
  s = d.session

  rest-known : (done : List Trade) → RowsKnown (known d) d.rows (changed (rest_of a done) s.book)
  rest-known done =
      rows-fewer (known d) d.rows (changed (rest_of a done) s.book) s.book
      (changed-fewer (legal_price s) s.given s.book sound.inner.book-sound (rest_of a done) (rest-keeps (legal_price s) s.given a done)) sound.rows-known

  -- by its outcome
  abbrev listed_by : Outcome → List Trade
  listed_by o = trades_read (count_answered o (part s a)) (trades_written (price_answered o) (trades o (part s a)) list)

  outcome-leaves : (o : Outcome) → plain.outcome_of s a ≡ o
      → RowsKnown (known d) d.rows (plain.session_after s a (part s a) o).book × (total d.totals + volume (listed_by o) ≤ traded_most (plain.session_after s a (part s a) o).phase)
  outcome-leaves (Traded price quantity) e =
      let done = trades (Traded price quantity) (part s a) in
      (rest-known done, rw (trades-back price done _) (omega (arith, sound.within, goes_on s.phase a allowed, traded-within s sound.inner a price quantity e)))
  outcome-leaves NoTrade e = (rest-known [], omega (arith, sound.within, goes_on s.phase a allowed))
  outcome-leaves NonOpening e = (sound.rows-known, omega (arith, sound.within))
  outcome-leaves (Delayed price quantity) e = (sound.rows-known, omega (arith, sound.within))

-- Auction hands it on.
pub auctioned-desk-sound : (d : Desk) (which : ℕ) (list : List ℕ) → SoundDesk d → SoundDesk (auctioned d which list).returned.session
unfolding auctioned plain.auctioned
auctioned-desk-sound d which list sound =
    let s = d.session in
    let l = plain.auctioned s which list in
    let (rows, within) = answered-cases (plain.auction_checks s which (length list)) (plain.auction_refused s list) (plain.auction_done s (auction_from which) list) (Leaves d)
    (λ n h e. (sound.rows-known, omega (arith, sound.within)))
    (λ e. outcome-leaves d sound (auction_from which) list (test-holds (allows_auction s.phase (auction_from which)) (clear (plain.auction_checks s which (length list)) tt e 4)) (plain.outcome_of s (auction_from which)) refl) in
    with-totals-sound d sound l.returned.session (auctioned-sound s which list sound.inner) rows (added_to (row_of_order d) (trades_listed l) d.totals)
    (all-added-length (row_of_order d) (trades_listed l) d.totals ∙ sound.totals-long)
    (omega (arith, within, all-added-most (row_of_order d) (trades_listed l) d.totals))
