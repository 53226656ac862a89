pub mod Commands
pub mod Outcomes
pub mod Pointers
pub mod Trees
pub mod Values
pub mod Words
