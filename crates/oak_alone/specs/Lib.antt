pub mod Quiet
pub mod Alone
