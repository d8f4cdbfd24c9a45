-- Laws of what specs/ defines that fall with an edit of must-fail/: in specs/ such an edit could not be read.
pub mod OverShares
pub mod PairingLaws
pub mod Trades
pub mod TradesOf
pub mod Turns
pub mod Written
