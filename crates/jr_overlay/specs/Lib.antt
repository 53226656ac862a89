pub mod Committing
pub mod Drafts
pub mod Merging
pub mod Overlays
pub mod Views
