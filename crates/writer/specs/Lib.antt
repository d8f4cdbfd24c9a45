-- The writer of session files: K1.

-- the paper
pub mod Writing
-- as the code computes it
pub mod Numbers
pub mod Fields
pub mod Rows
