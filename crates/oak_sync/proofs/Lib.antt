pub mod Sets
pub mod Ending
pub mod Standing
