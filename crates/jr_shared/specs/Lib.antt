pub mod Meanings
pub mod Ends
pub mod Holds
pub mod Seen
