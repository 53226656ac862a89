pub mod FirstRefusal
mod UpwardPaths
pub mod OwnNames
