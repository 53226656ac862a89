pub mod AlikeViews
pub mod Commands
pub mod Subtrees
