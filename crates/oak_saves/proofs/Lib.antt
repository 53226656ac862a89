pub mod Tables
pub mod Stages
pub mod Feeding
pub mod Needs
pub mod Replies
pub mod Acting
