pub mod Answers
pub mod Commands
pub mod Texts
pub mod Views
