pub mod Splitting
pub mod Collecting
pub mod Tidying
pub mod Ordered
pub mod Beside
pub mod Steps
