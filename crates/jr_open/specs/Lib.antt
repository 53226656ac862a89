pub mod Typed
pub mod Ordered
