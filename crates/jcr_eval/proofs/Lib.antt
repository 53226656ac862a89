mod Viewed
pub mod Causes
pub mod Iffs
pub mod Options
pub mod Passing
pub mod QueryCauses
pub mod Refusing
pub mod Showing
pub mod TaskCauses
