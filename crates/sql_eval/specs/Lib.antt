pub mod Conditions
pub mod Joins
pub mod Shown
pub mod Keys
pub mod Rows
pub mod RowTexts
