-- The transcript: a file's records run from a fresh session, and what is printed.

-- the paper
pub mod Transcript
pub mod Worked
-- its laws
pub mod Steps
pub mod Fed
-- as the code computes it
pub mod Lent
pub mod Told
pub mod Next
pub mod TellLaws
pub mod Underway
pub mod InPlace
