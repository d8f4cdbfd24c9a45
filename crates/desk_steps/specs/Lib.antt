-- A record of a session file carried out in a session that keeps the square.

-- the paper
pub mod Steps
-- as the code computes it
pub mod Lent
-- its laws
pub mod StepLaws
