-- What a call of an auction comes to: what may hold it back, the numbers that it answers, and its course.

-- the paper
pub mod Held
pub mod Answer
-- as the code computes it
pub mod Course
