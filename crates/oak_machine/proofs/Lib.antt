pub mod Apart
pub mod Deciding
pub mod Forward
pub mod Induction
pub mod Ranges
mod Rows
pub mod Stays
mod StepRows
