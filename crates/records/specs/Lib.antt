-- The session file: fields, records and the walk.

-- the paper
pub mod Fields
pub mod Walk
pub mod Bytes
pub mod Examples
-- its laws
pub mod Layout
pub mod Ends
pub mod Pieces
pub mod TableBytes
pub mod RoundTrip
-- as the code computes it
pub mod Numbers
pub mod Lengths
pub mod Reads
pub mod BandsRead
pub mod Headers
