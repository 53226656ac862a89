pub mod Entries
pub mod Pruned
pub mod Tables
pub mod Nodes
pub mod Whole
pub mod Rows
