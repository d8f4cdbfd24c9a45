-- The auction of a session that keeps the square.

-- the paper
pub mod Auctions
-- as the code computes it
pub mod AuctionCalls
-- it hands SoundDesk on
pub mod SoundAfter
