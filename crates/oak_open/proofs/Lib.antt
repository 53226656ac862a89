pub mod Left
pub mod Numbered
pub mod Shown
