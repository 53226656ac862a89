pub mod BroughtBack
pub mod CheckedIn
pub mod Edits
pub mod Restored
