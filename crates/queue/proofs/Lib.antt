-- Laws of what specs/ defines that fall with an edit of must-fail/: in specs/ such an edit could not be read.
pub mod Distinct
pub mod Examples
pub mod Keys
pub mod Part
pub mod Placing
pub mod Queue
pub mod Rank
pub mod Reach
pub mod Sides
