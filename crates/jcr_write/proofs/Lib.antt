pub mod Defs
pub mod Due
pub mod Keeping
pub mod Moving
pub mod Reading
