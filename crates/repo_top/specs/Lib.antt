pub mod Ends
pub mod Headline
pub mod Statuses
pub mod Summary
pub mod Typed
pub mod Words
