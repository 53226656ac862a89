-- The texts of the crate below, for the crates above.
pub use Rattle.jr_list.specs.declared.text.Text.{Text}
