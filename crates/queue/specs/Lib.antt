-- The queue: who takes part, and rank.

-- the paper
pub mod Part
pub mod Sides
pub mod Rank
pub mod Examples
-- its laws
pub mod Distinct
-- as the code computes it
pub mod RankNumbers
pub mod Queue
