pub mod Hands
pub mod Workers
pub use Rattle.jr_stage.specs.Places
pub use Rattle.jr_stage.specs.Runs
