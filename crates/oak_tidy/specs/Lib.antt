pub mod Replies
pub mod Tidyings
pub mod Moves
pub mod Left
