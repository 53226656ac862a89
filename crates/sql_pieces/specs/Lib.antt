pub mod Firsts
pub mod Leaves
pub mod Pieces
pub mod Reading
