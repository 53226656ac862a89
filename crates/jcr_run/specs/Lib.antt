pub mod Asked
pub mod Came
pub mod Nearing
pub mod Standing
