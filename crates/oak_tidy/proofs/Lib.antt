pub mod Looking
pub mod Staying
pub mod Ordered
pub mod Moving
pub mod Reading
pub mod Lowering
