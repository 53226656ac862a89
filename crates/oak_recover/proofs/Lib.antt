pub mod Feeding
pub mod Asking
pub mod Greatest
pub mod Ending
pub mod Told
