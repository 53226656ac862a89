pub mod Checkpoints
pub mod Comings
pub mod Dues
pub mod Footings
pub mod Reading
pub mod Rooted
pub mod Unset
