-- A session file read and written again: K1.
pub mod Rewriting
