-- Steps of committing a draft: each path gets a place first, then each node moves into its place.
use Rattle.std.specs.Prelude.{List, Option, None, is_none}
use Rattle.std.specs.Option.{option_map, option_map_or}
use Rattle.std.specs.Map.{keys_of, remove_entry, set_value}
use Rattle.std.specs.BTreeMap.{is_at, insert_entry}
use Rattle.std.specs.List.{filter, fold}
use Rattle.jr_path.specs.Names.{path_cmp}
use Rattle.jr_path.specs.declared.path.Path.{Path}
use Rattle.jr_tree.specs.declared.tree.Node.{Node}
use Rattle.jr_tree.specs.Trees.{Nodes, node_at}
use Rattle.jr_overlay.specs.declared.overlay.Change.{Change}
use Rattle.jr_overlay.specs.Overlays.{Changed, change_at, dated_as}
use Rattle.jr_overlay.specs.Drafts.{Steps}

-- the paths of the steps that no change touches yet
abbrev pub untouched : Changed → Steps → List Path
untouched c steps = filter (λ p. is_none (change_at c p)) (keys_of steps)

-- a change that keeps what the tree has at p, with no node in the view
abbrev pub place_at : Nodes → Path → Change
place_at t p = record { old = node_at t p; new = None }

-- the changes with a place at each of some paths
abbrev pub with_places : Nodes → Changed → List Path → Changed
with_places t c ps = fold (λ c p. insert_entry path_cmp c p (place_at t p)) c ps

-- the changes without those at some paths
abbrev pub without_places : Changed → List Path → Changed
without_places c ps = fold (λ c p. remove_entry (is_at (path_cmp p)) c) c ps

-- a change with this node in the view, dated as the one that it keeps
abbrev pub change_moved : Change → Option Node → Change
change_moved x node = record x { new = option_map (dated_as x.old) node }

-- the changes with a step's node in the place that is there for it
abbrev pub with_new_at : Changed → Path × Option Node → Changed
with_new_at c e =
    option_map_or (λ x. set_value (is_at (path_cmp e.0)) c (change_moved x e.1)) (change_at c e.0) c
