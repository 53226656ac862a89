mod Below
pub mod Replied
