-- Laws of what specs/ defines that fall with an edit of must-fail/: in specs/ such an edit could not be read.
pub mod Candidates
pub mod Chain
pub mod Clause7
pub mod Examples
pub mod Interest
pub mod Ladder
pub mod Legal
pub mod SearchFinds
pub mod Weighing
