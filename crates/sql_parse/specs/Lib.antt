pub mod Depths
pub mod Grammar
pub mod Answers
