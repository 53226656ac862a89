-- Nodes that stand with their parents.
use Rattle.std.specs.Prelude.{Bool, cond, is_some}
use Rattle.jr_path.specs.declared.path.Path.{Path}
use Rattle.jr_tree.specs.Trees.{Nodes, children_of, has_parent, node_at}
use Rattle.jr_items.specs.Items.{is_empty}

-- the node at a path stands with its parent, or it doesn't stand, and none right below it does
abbrev pub is_rooted : Nodes → Path → Bool
is_rooted t p = cond (is_some (node_at t p)) (has_parent t p) (is_empty (children_of t p))
