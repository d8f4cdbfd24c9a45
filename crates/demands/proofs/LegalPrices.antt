-- The price that an auction's call answers is legal (B7).
use Rattle.std.specs.Prelude.{ℕ, ◌⊎◌, ◌≡◌, List, T}
use Rattle.lists.specs.Tests.{and_both}
use Rattle.terms.specs.Kinds.{is_price, is_multiple}
use Rattle.terms.specs.Tables.{row_of, on_step}
use Rattle.terms.specs.Orders.{auction_number}
use Rattle.terms.specs.declared.orders.{Auction.Auction}
use Rattle.book.specs.Resting.{resting}
use Rattle.queue.proofs.Reach.{resting-sound}
use Rattle.session.specs.declared.{Session.Session}
use Rattle.session.specs.Sound.{legal_price, Sound}
use Rattle.answers.specs.Auctions.{auctioned}
use Rattle.demands.specs.Prices.{price-is-legal}
use Rattle.demands.proofs.Outcomes.{outcomes-in-order}

-- B7. An auction price, of outcome 1 or 4, is legal: a price, and on its step by the session's table (02 K6),
pub answered-price-is-legal : (s : Session) → Sound s → (a : Auction) (list : List ℕ) → (auctioned s (auction_number a) list).returned.answer ≡ 0
    → ((auctioned s (auction_number a) list).returned.result.outcome ≡ 1) ⊎ ((auctioned s (auction_number a) list).returned.result.outcome ≡ 4)
    → T (legal_price s (auctioned s (auction_number a) list).returned.result.price)
answered-price-is-legal s sound a list accepted which =
    price-is-legal a (legal_price s) s.reference.0 (resting s.book) sound.reference-holds
    (λ o m. (resting-sound (legal_price s) s.given s.book sound.book-sound o m).limit-legal)
    (auctioned s (auction_number a) list).returned.result.price ((outcomes-in-order s a list accepted).priced which).0

-- .. a multiple of the step of the row in which it falls
pub answered-price-on-its-step : (s : Session) → Sound s → (a : Auction) (list : List ℕ) → (auctioned s (auction_number a) list).returned.answer ≡ 0
    → ((auctioned s (auction_number a) list).returned.result.outcome ≡ 1) ⊎ ((auctioned s (auction_number a) list).returned.result.outcome ≡ 4)
    → (price : ℕ) → (auctioned s (auction_number a) list).returned.result.price ≡ price → T (is_multiple (row_of s.parameters.table price).step price)
unfolding on_step
answered-price-on-its-step s sound a list accepted which price e =
    rw e at (and_both (is_price (auctioned s (auction_number a) list).returned.result.price) _ (answered-price-is-legal s sound a list accepted which)).1
