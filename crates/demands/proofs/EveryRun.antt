-- "Could more have traded?" (C1 to C6) in one statement, over every sequence of calls from a fresh session (A6).
use Rattle.std.specs.Prelude.{ℕ, ◌≡◌, List}
use Rattle.terms.specs.Orders.{auction_number}
use Rattle.terms.specs.declared.orders.{Auction.Auction, Auction.TheVariants.Opening, Auction.TheVariants.Closing}
use Rattle.session.specs.declared.{Session.Session}
use Rattle.session.specs.State.{fresh_session}
use Rattle.session.specs.Sound.{Sound}
use Rattle.answers.specs.Auctions.{auctioned}
use Rattle.demands.specs.Sequences.{Call, run, reached-is-sound}
use Rattle.demands.specs.Prevented.{closing-carried-out}
use Rattle.demands.proofs.Prevented.{opening-prevented, opening-prevented-legally}
use Rattle.demands.specs.Auctioned.{no-list-at-any-price-moves-more, as-much-bought-as-sold, no-order-passed-over, nothing-left-to-trade, list_written}
use Rattle.demands.specs.EveryRun.{AllThatCouldTrade, PreventedExactly}

prevented-as-told : (s : Session) → Sound s → (a : Auction) (list : List ℕ) → (auctioned s (auction_number a) list).returned.answer ≡ 0
    → PreventedExactly s a (auctioned s (auction_number a) list)
prevented-as-told s sound Opening list accepted = (opening-prevented s sound list accepted, opening-prevented-legally s sound list accepted)
prevented-as-told s sound Closing list accepted = closing-carried-out s list accepted

-- A6, C1 to C6. All of it holds of every auction that is not refused, after any calls: that is every auction of every sequence, since the calls
-- before it are a sequence. One asked for by the number of neither auction is refused (`accepted-number`).
pub every-auction : (cs : List Call) (a : Auction) (list : List ℕ) → (auctioned (run fresh_session cs) (auction_number a) list).returned.answer ≡ 0
    → AllThatCouldTrade (run fresh_session cs) a list (auctioned (run fresh_session cs) (auction_number a) list)
every-auction cs a list accepted =
    let s = run fresh_session cs in
    let sound = reached-is-sound cs in
    record {
      moves-most = no-list-at-any-price-moves-more s sound a list;
      bought-is-sold = as-much-bought-as-sold s sound a list;
      nobody-passed-over = no-order-passed-over s sound a list;
      nothing_left = nothing-left-to-trade s sound a list;
      prevented-exactly = prevented-as-told s sound a list accepted;
      list_written = list_written s sound a list;
    }
