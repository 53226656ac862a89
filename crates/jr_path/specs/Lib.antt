pub mod Grammar
pub mod Ids
pub mod Lists
pub mod Named
pub mod Names
pub mod Paths
pub mod Stages
