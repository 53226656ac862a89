pub mod Printed
pub mod Ranges
pub mod Reading
