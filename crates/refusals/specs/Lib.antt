-- Refusals: 01 "Refusals by number".

-- the paper
pub mod Numbers
pub mod Checks
pub mod Rows
-- its laws
pub mod Exactly
