-- The square, its members and its cells.

-- the paper
pub mod Square
pub mod Examples
pub mod Cells
-- as the code computes it
pub mod Naming
pub mod Rows
pub mod Pairs
