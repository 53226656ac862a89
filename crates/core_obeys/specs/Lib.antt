pub mod Answering
pub mod NoPlans
pub mod Obeying
pub mod Plans
pub mod Product
pub mod Tidy
pub use Rattle.core_calls.specs.Seeing
