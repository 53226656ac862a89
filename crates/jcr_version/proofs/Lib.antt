pub mod Due
mod FirstBeyond
mod Identifiers
