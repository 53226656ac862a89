pub mod Backward
pub mod Equal
pub mod Free
pub mod Live
pub mod LocalHead
