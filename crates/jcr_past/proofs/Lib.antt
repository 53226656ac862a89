pub mod Coming
mod States
pub mod Known
