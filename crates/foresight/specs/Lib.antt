-- The theoretical answer: what it returns.

-- the paper
pub mod Theoretical
-- as the code computes it
pub mod TheoreticalCall
