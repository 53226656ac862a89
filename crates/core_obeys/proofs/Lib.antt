pub mod Views
pub mod Clash
pub mod Steps
pub mod Types
pub mod Locks
pub mod Frozen
pub mod References
pub mod Paths
pub mod Covering
pub mod Fitting
pub mod MarksOf
pub mod Runs
pub mod Free
pub mod Referring
pub mod Obeys
mod Rows
pub mod Starting
mod Runnings
pub mod Unclashing
pub mod Planned
pub mod Answering
