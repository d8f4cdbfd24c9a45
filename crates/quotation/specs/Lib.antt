-- Quotation: what a quote returns and leaves.

-- the paper
pub mod Quote
-- as the code computes it
pub mod QuoteCall
-- its law, which needs where the new sides stand
pub mod QuoteSound
