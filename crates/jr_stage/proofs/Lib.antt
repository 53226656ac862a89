pub mod Answering
pub mod Ascending
pub mod Beginning
pub mod Behind
pub mod Closing
mod Collecting
pub mod Coming
pub mod Counting
pub mod Due
pub mod First
pub mod Flying
pub mod Going
pub mod Growing
pub mod InTurn
pub mod Looking
pub mod Looping
pub mod Reaching
pub mod Reading
pub mod Renaming
mod Rows
pub mod Saving
mod Script
pub mod Seen
pub mod SoFar
pub mod Taking
pub mod Turning
pub mod Uncommitted
pub mod Unnamed
mod Waiting
pub mod Whole
pub mod Within
