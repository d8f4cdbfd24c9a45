-- Laws of what specs/ defines that fall with an edit of must-fail/: in specs/ such an edit could not be read.
pub mod Members
pub mod Owed
pub mod OwesLines
