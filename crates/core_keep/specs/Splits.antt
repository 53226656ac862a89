-- What a split moves: the words of oak_prev.
pub use Rattle.oak_prev.specs.Splits.{older, is_filled, has_values, entry_from, older_values, moved_props, moved_keys, moved_count, moved_revisions, moved_roots, listed_as, previous_write, main_write, IsInOrder}
