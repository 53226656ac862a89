-- Steps of reading a view: the touched nodes below a path, and a node in the place of a tree's.
use Rattle.std.specs.Prelude.{Option}
use Rattle.std.specs.Option.{option_map, option_map_or, option_to_list}
use Rattle.std.specs.Ordering.{is_lt}
use Rattle.std.specs.Map.{remove_entry}
use Rattle.std.specs.BTreeMap.{is_at, insert_entry}
use Rattle.std.specs.List.{filter}
use Rattle.jr_path.specs.Names.{name_cmp, path_cmp, is_under}
use Rattle.jr_path.specs.declared.name.Name.{Name}
use Rattle.jr_path.specs.declared.path.Path.{Path}
use Rattle.jr_tree.specs.declared.tree.Node.{Node}
use Rattle.jr_tree.specs.Trees.{Nodes}
use Rattle.jr_part.specs.Parts.{ChildNames}
use Rattle.jr_overlay.specs.Overlays.{Changed}

-- the changes at or below p
abbrev pub changes_under : Changed → Path → Changed
changes_under c p = filter (λ e. is_under e.0 p) c

-- the nodes before p in path order
abbrev pub before : Path → Nodes → Nodes
before p t = filter (λ e. is_lt (path_cmp e.0 p)) t

-- the nodes behind p in path order
abbrev pub behind : Path → Nodes → Nodes
behind p t = filter (λ e. is_lt (path_cmp p e.0)) t

-- a node at p, if there is one
abbrev pub node_there : Path → Option Node → Nodes
node_there p node = option_to_list (option_map (λ n. (p, n)) node)

-- the nodes with one more, if there is one, in the place of what stands at p
abbrev pub with_copy : Nodes → Path → Option Node → Nodes
with_copy t p node = option_map_or (insert_entry path_cmp t p) node t

-- the children's names with one that is there as this node, or without it where there is none
abbrev pub with_child_name : ChildNames → Name → Option Node → ChildNames
with_child_name names n node = option_map_or (λ x. insert_entry name_cmp names n x.born) node
    (remove_entry (is_at (name_cmp n)) names)
