-- Held pairs of a vector and the sweep vector that it was taken with, and the bound of a collection.
use Rattle.std.specs.Prelude.{List, ◌∷◌, ◌++◌}
use Rattle.std.specs.Map.{values_of}
use Rattle.std.specs.List.{flat_map, fold}
use Rattle.jr_rev.specs.declared.vector.Pin.{Pin}
use Rattle.jr_rev.specs.Vectors.{least}
use Rattle.oak_doc.specs.declared.document.Document.{Document}

-- what a cluster node tells: its head with its sweep vector, and the pins of its sessions and of their cursors
pub record Told : Type 0 where
  pub head : Pin
  pub pins : List Pin

-- what the settings keep: checkpoints and attached readers
abbrev pub kept_pairs : Document → List Pin
kept_pairs settings = values_of settings.checkpoints ++ values_of settings.readers

-- the pairs that are held: of sessions, of cursors, of checkpoints and of attached readers
abbrev pub held_pairs : List Told → Document → List Pin
held_pairs nodes settings = flat_map (λ n. n.pins) nodes ++ kept_pairs settings

-- the lesser of two pairs, in both vectors
abbrev pub lesser_pair : Pin → Pin → Pin
lesser_pair a b = record { base = least a.base b.base; sweep = least a.sweep b.sweep }

-- what the root has published, and how far it was swept
abbrev pub root_pair : Document → Pin
root_pair root = record { base = root.last_rev; sweep = root.sweep_rev }

-- the pairs that bound a collection besides the root's: heads, held pairs of the nodes, and those that the settings keep
abbrev pub bounding_pairs : List Told → Document → List Pin
bounding_pairs nodes settings = flat_map (λ n. n.head ∷ n.pins) nodes ++ kept_pairs settings

-- the bound of a collection that has read the root, the cluster nodes and the settings
abbrev pub bound_of : Document → List Told → Document → Pin
bound_of root nodes settings = fold lesser_pair (root_pair root) (bounding_pairs nodes settings)
