-- What a collection may drop: the words of oak_gc.
pub use Rattle.oak_gc.specs.Garbage.{keys_where, revisions_kept, is_superseded, garbage_in, are_superseded, is_garbage_previous, is_absent, is_garbage_document, pruning, is_garbage_listed, garbage_listed, has_garbage}
