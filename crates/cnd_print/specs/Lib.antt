pub mod Printable
pub mod Printing
