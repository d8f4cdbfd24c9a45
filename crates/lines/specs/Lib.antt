-- The printed lines: 01 "Session file".

-- the paper
pub mod Words
pub mod Line
pub mod Examples
-- its laws
pub mod Lengths
-- as the code computes it
pub mod Placed
pub mod OneByOne
pub mod TradeLines
