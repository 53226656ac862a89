pub mod Children
pub mod Made
