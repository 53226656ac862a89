pub mod Digits
pub mod Below
pub mod NamesText
