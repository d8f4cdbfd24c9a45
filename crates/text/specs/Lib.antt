-- Text: words and numbers as bytes, written into a buffer.

-- the paper
pub mod Text
-- as the code computes it
pub mod Decimal
