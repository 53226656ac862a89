pub mod Agreeing
pub mod Below
pub mod Ends
pub mod Entries
pub mod Feeding
pub mod Ranges
mod Rows
pub mod Walking
