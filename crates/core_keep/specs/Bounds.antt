-- Held pairs and the bound of a collection: the words of oak_gc.
pub use Rattle.oak_gc.specs.Bounds.{Told, kept_pairs, held_pairs, lesser_pair, root_pair, bounding_pairs, bound_of}
