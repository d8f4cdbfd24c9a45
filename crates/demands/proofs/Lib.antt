-- Laws of what specs/ defines that fall with an edit of must-fail/: in specs/ such an edit could not be read.
pub mod Delays
pub mod EveryRun
pub mod LegalPrices
pub mod Outcomes
pub mod Prevented
