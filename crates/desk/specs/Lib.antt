-- A session that keeps the square.

-- the paper
pub mod Desk
pub mod Calls
-- its property
pub mod Sound
-- each call hands it on
pub mod RowsKept
pub mod MembersKept
pub mod SoundAfter
-- as the code computes it
pub mod EntryCalls
