-- The session: what it holds, how it changes, and what holds of every one that can be reached.

-- the paper
pub mod State
-- its laws
pub mod Sound
