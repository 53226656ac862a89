pub mod Independent
pub mod Orders
