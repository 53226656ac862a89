-- What the commits between two vectors change.
use Rattle.std.specs.Prelude.{Bool, true, false, not, ◌&&◌, List, [], is_some, map}
use Rattle.std.specs.Map.{values_of}
use Rattle.std.specs.BTreeMap.{insert_entry}
use Rattle.std.specs.List.{filter, fold}
use Rattle.jr_rev.specs.declared.revision.Revision.{Revision}
use Rattle.jr_rev.specs.declared.vector.RevVec.{RevVec}
use Rattle.jr_rev.specs.Revisions.{is_before}
use Rattle.jr_rev.specs.Vectors.{sees}
use Rattle.jr_tree.specs.declared.shared.ItemChange.{ItemChange}
use Rattle.jr_tree.specs.declared.shared.CommitChanges.{CommitChanges}
use Rattle.jr_tree.specs.declared.edit.Write.{Write}
use Rattle.jr_tree.specs.declared.edit.Write.TheVariants.{Here, Gone, Put, Unset}
use Rattle.jr_tree.specs.Trees.{Nodes, node_at, property_at}
use Rattle.jr_tree.specs.Edits.{item_cmp, item_of}
use Rattle.oak_machine.specs.History.{Begin, Past, begin_tree}
use Rattle.oak_machine.specs.Commits.{applied_all, committed_edits}

-- whether the item of a write is there
abbrev pub has_item : Nodes → Write → Bool
has_item t (Here p) = is_some (node_at t p)
has_item t (Gone p) = is_some (node_at t p)
has_item t (Put p n x) = is_some (property_at t p n)
has_item t (Unset p n) = is_some (property_at t p n)

-- whether a write leaves its item there
abbrev pub leaves_item : Write → Bool
leaves_item (Here p) = true
leaves_item (Gone p) = false
leaves_item (Put p n x) = true
leaves_item (Unset p n) = false

-- an item that is written on a tree: whether it was there before, and is after
abbrev pub item_change : Nodes → Write → ItemChange
item_change t w = record { item = item_of w; before = has_item t w; after = leaves_item w }

-- the item changes of an edit on a tree, in the order of the items
abbrev pub item_changes : Nodes → List Write → List ItemChange
item_changes t ws = values_of (fold (λ es w. insert_entry item_cmp es (item_of w) (item_change t w)) [] ws)

-- the tree of the commits below r that v sees
abbrev pub tree_below : Begin → Past → RevVec → Revision → Nodes
tree_below begin past v r = applied_all (begin_tree begin) (filter (λ e. sees v e.0 && is_before e.0 r) (committed_edits past))

-- the commits that `to` sees and `from` doesn't, in ascending order, each with its item changes
abbrev pub changes_between : Begin → Past → RevVec → RevVec → List CommitChanges
changes_between begin past from to =
    map (λ e. record { revision = e.0; changes = item_changes (tree_below begin past to e.0) e.1 })
    (filter (λ e. sees to e.0 && not (sees from e.0)) (committed_edits past))
