-- Quotes: which resting orders are sides of a member's quote, and the book without them or with others in their stead (02 K2).

-- the paper
pub mod Quotes
-- its laws
pub mod Without
-- as the code computes it
pub mod Groups
pub mod QuoteHints
