-- Laws of what specs/ defines that fall with an edit of must-fail/: in specs/ such an edit could not be read.
pub mod Made
pub mod Sides
pub mod TableExamples
pub mod TableLaws
