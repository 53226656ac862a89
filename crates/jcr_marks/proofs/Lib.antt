mod ByWrite
mod MarkOrder
pub mod Membership
pub mod OfWrites
pub mod Rows
pub mod Stirred
