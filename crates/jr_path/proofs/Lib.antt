pub use Rattle.jr_list.proofs.Entries
pub mod Cases
pub mod Follows
pub mod Maps
pub mod Named
pub mod Orders
pub mod OwnNames
pub mod Parts
pub mod Pieces
mod Rows
pub mod Scanned
pub mod TextLaws
