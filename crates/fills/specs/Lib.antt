-- Fills: how a total is filled from the front.

-- the paper
pub mod Fill
pub mod Front
-- as the code computes it
pub mod Shares
pub mod ShareFills
