pub mod Faulty
pub mod Options
pub mod Told
