-- What we tell customers of a session that keeps the square (02 K5). Each statement carries its id in the comment above it.

-- the words of the statements
pub mod Runs
pub mod Plain
pub mod Lines
pub mod Owed
pub mod Members
pub mod OwesLines
