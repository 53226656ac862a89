pub mod Passing
pub mod Missing
pub mod Teaching
pub mod Knowing
