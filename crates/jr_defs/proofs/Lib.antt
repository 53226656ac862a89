pub mod ByParts
pub mod KindWords
