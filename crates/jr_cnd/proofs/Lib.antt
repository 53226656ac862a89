mod Answered
pub mod OneMeaning
mod Kept
