pub mod Counted
pub mod KeepingHistories
pub mod KeepingTrees
pub mod PutNodes
pub mod ReadBelow
pub mod ReadTrees
pub mod Sets
pub mod Touched
