-- The clearing program: what its writing keeps to.
pub mod Within
