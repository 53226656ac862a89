pub mod Cuts
pub mod OneCut
