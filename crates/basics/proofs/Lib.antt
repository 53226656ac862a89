pub mod Bools
pub mod Options
pub mod Orders
pub mod Lists
