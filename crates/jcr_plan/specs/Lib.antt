pub mod Checked
pub mod First
pub mod Plans
pub mod Refusals
