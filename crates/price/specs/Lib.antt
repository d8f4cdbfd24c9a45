-- The price: 01 "The price".

-- the paper
pub mod Interest
pub mod Candidates
pub mod Chain
-- as the code computes it
pub mod Search
pub mod SearchFinds
pub mod Weighing
pub mod Below
