-- The price: candidates suffice (B5), the last rule never meets two equally near (B6), and the price is legal (B7).
use Rattle.std.specs.Prelude.{ℕ, ◌≤◌, Bool, ◌≡◌, List, T}
use Rattle.std.proofs.Math.Option.{some}
use Rattle.lists.specs.Sums.{◌∈◌, apart}
use Rattle.lists.specs.Choice.{smallest}
use Rattle.terms.specs.Orders.{Resting, is_legal}
use Rattle.terms.specs.declared.orders.{Auction.Auction}
use Rattle.queue.specs.Part.{taking_part}
use Rattle.queue.proofs.Part.{taking_part-elim}
use Rattle.price.specs.Interest.{executable}
use Rattle.price.specs.Candidates.{most_executable}
use Rattle.price.proofs.Candidates.{candidates-suffice}
use Rattle.price.specs.Chain.{kept, auction_price}
use Rattle.price.proofs.Chain.{nearest-one}
use Rattle.price.proofs.Legal.{price-legal}

-- B5.
pub no-price-executes-more : (a : Auction) (reference : ℕ) (resting : List Resting) (p : ℕ) → executable (taking_part a resting) p ≤ most_executable reference (taking_part a resting)
no-price-executes-more a reference resting p = candidates-suffice reference (taking_part a resting) p

-- B6. `kept` is what steps 1 and 2 keep.
pub one-nearest : (a : Auction) (reference : ℕ) (resting : List Resting) {p q : ℕ} → p ∈ smallest (apart reference) (kept reference (taking_part a resting))
    → q ∈ smallest (apart reference) (kept reference (taking_part a resting)) → p ≡ q
one-nearest a reference resting m n = nearest-one reference (taking_part a resting) m n

-- B7.
pub price-is-legal : (a : Auction) (legal : ℕ → Bool) (reference : ℕ) (resting : List Resting) → T (legal reference) → ((o : Resting) → o ∈ resting → T (is_legal legal o.limit))
    → (p : ℕ) → auction_price reference (taking_part a resting) ≡ some p → T (legal p)
price-is-legal a legal reference resting r limits p e = price-legal legal reference (taking_part a resting) r (λ o m. limits o (taking_part-elim a resting m).0) p e
