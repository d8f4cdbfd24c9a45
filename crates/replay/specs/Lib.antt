-- The session program: what holds between its turns, and of all of them.
pub mod Turns
pub mod WholeRun
