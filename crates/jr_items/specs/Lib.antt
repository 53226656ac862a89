pub mod Items
pub mod Names
pub mod Own
pub mod Refusals
