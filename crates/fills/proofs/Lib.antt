-- Laws of what specs/ defines that fall with an edit of must-fail/: in specs/ such an edit could not be read.
pub mod Examples
pub mod Fill
pub mod FrontLaws
pub mod ShareFills
pub mod SharesLaws
