-- Answers: what an auction returns and leaves.

-- the paper
pub mod Auctions
-- as the code computes it
pub mod AuctionCalls
