-- Effects: what an order, a deletion and a quote change.

-- the paper, as the code computes it
pub mod Effects
pub mod QuoteEffects
