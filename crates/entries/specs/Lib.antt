-- Entries: what start, order and delete return and leave.

-- the paper
pub mod Entry
-- its laws
pub mod SoundAfter
-- as the code computes it
pub mod StartCall
pub mod Changes
