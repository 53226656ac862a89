pub mod Builtin
pub mod Tables
