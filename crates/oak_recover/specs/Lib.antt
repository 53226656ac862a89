pub mod Dead
pub mod Ending
pub mod Reading
pub mod Recovering
pub mod Told
