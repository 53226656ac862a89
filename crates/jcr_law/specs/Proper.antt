-- Whether writes are proper on a tree, as a test.
use Rattle.std.specs.Prelude.{Bool, ◌&&◌, List, [], None, is_some}
use Rattle.std.specs.FinMap.{is_sorted}
use Rattle.std.specs.List.{list_all}
use Rattle.jr_path.specs.Names.{path_cmp}
use Rattle.jr_tree.specs.declared.edit.Write.{Write}
use Rattle.jr_tree.specs.Edits.{applied, is_change, is_emptied, is_once}
use Rattle.jr_tree.specs.Trees.{Nodes, has_names_in_order, has_parent, node_at}

-- each path and each name stands once, in order; the root is there, and so is the parent of each
-- node
abbrev pub is_tree : Nodes → Bool
is_tree t = is_sorted path_cmp t && has_names_in_order t && is_some (node_at t [])
    && list_all (λ e. has_parent t e.0) t

-- the tree after the writes is one, each item is written once and is changed by it, and a node that
-- goes has each property unset
unfoldable pub is_proper : Nodes → List Write → Bool
is_proper t ws = is_tree (applied None t ws) && is_once ws
    && list_all (is_change t (applied None t ws)) ws && list_all (is_emptied t ws) ws
