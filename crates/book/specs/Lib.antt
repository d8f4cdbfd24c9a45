-- The book: what rests at its places.

-- the paper
pub mod Columns
pub mod Resting
-- its laws
pub mod Writing
pub mod ByPlace
pub mod Sound
pub mod Additions
pub mod Changed
-- as the code computes it
pub mod Groups
pub mod Hints
pub mod Settling
