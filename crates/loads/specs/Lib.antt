-- Loads: what a session of the programs that count takes, and the loads of its book.
pub mod Loads
pub mod Load
