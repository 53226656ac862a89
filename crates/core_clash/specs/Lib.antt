pub mod Views
pub mod Core
pub mod Sound
pub mod Collecting
pub mod Steps
pub mod Sessions
pub mod Unclashing
