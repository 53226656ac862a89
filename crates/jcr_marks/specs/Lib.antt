pub mod ByWrite
pub mod Marks
