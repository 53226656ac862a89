pub mod AtOnce
mod Childless
mod Identifiers
mod Improper
mod Replying
mod Standing
mod Written
pub mod QueryRead
pub mod NoFloat
