pub mod Changes
pub mod Fields
pub mod Heads
pub mod Memory
pub mod Notes
pub mod Pins
pub mod Seen
pub mod Stops
