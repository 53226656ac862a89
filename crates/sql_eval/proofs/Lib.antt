pub mod Orders
pub mod Missing
pub mod Places
pub mod OneOrder
pub mod OneRows
pub mod PlainRows
pub mod SameQuery
