-- The auction: 01 "Outcomes".

-- the paper
pub mod Outcome
pub mod After
pub mod Examples
-- its laws
pub mod NonOpening
-- as the code computes it
pub mod Decided
pub mod Ended
pub mod Trading
