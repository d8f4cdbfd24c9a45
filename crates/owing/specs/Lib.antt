-- Who owes whom, in lines.

-- the paper
pub mod Owing
pub mod Examples
-- its laws
pub mod Lengths
pub mod Texts
-- as the code computes it
pub mod OneByOne
