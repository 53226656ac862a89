-- A whole tree as what is known of it.
use Rattle.std.specs.Prelude.{Some}
use Rattle.std.specs.List.{fold}
use Rattle.std.specs.Option.{option_map_or}
use Rattle.jr_path.specs.Names.{parent_of}
use Rattle.jr_path.specs.declared.path.Path.{Path}
use Rattle.jr_tree.specs.declared.tree.Node.{Node}
use Rattle.jr_tree.specs.Trees.{Nodes, dated_children_of}
use Rattle.jr_part.specs.Parts.{Knowledge, nothing_known, with_children, with_node}

-- a node of a tree is known, and the children of the node above it
abbrev pub with_node_known : Nodes → Knowledge → Path × Node → Knowledge
with_node_known t k e = option_map_or (λ q. with_children (with_node k e.0 (Some e.1)) q
    (dated_children_of t q)) (parent_of e.0) (with_node k e.0 (Some e.1))

-- each node of a tree is known, and so are the children of each node that has some
abbrev pub all_known : Nodes → Knowledge
all_known t = fold (with_node_known t) nothing_known t
