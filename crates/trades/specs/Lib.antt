-- Trades: 01 "Outcomes", the pairing of the two queues and the lent list.

-- the paper
pub mod Trades
pub mod Pairing
pub mod TradesOf
pub mod Written
-- as the code computes it
pub mod OverShares
pub mod Turns
