pub mod Children
pub mod Completes
pub mod Due
pub mod Each
pub mod Fills
mod Identifiers
pub mod KeepingTrees
pub mod Loops
pub mod OneByOne
pub mod Touched
