-- Laws of what specs/ defines that fall with an edit of must-fail/: in specs/ such an edit could not be read.
pub mod AfterLaws
pub mod Composed
pub mod Decided
pub mod Ended
pub mod Examples
pub mod Left
pub mod NonOpening
pub mod OutcomeLaws
pub mod OutcomeIn
pub mod TradesIn
pub mod TradingLaws
