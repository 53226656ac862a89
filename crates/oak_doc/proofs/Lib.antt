pub mod Entries
mod Rows
