-- The nodes of an earlier tree that are gone from the new one.
use Rattle.std.specs.Prelude.{Bool, false, cond, List, [], Option, is_none}
use Rattle.std.specs.BTreeMap.{insert_entry}
use Rattle.std.specs.List.{fold}
use Rattle.std.specs.Option.{option_map_or}
use Rattle.jr_path.specs.Names.{path_cmp}
use Rattle.jr_path.specs.declared.path.Path.{Path}
use Rattle.jr_tree.specs.declared.tree.Node.{Node}
use Rattle.jr_tree.specs.Trees.{Nodes, node_at}
use Rattle.jr_part.specs.Parts.{Knowledge, known_at}

-- no node is at p, as is known
abbrev pub is_gone : Knowledge → Path → Bool
is_gone fresh p = option_map_or (λ (answer : Option Node). is_none answer) (known_at fresh p) false

-- with the node that was at p, where it is gone
abbrev pub with_gone : (earlier fresh : Knowledge) → Nodes → Path → Nodes
with_gone earlier fresh gone p =
    cond (is_gone fresh p)
    (option_map_or (λ node. insert_entry path_cmp gone p node) (node_at earlier.nodes p) gone)
    gone

-- the nodes that were at told paths and are gone
abbrev pub gone_nodes : (earlier fresh : Knowledge) → List Path → Nodes
gone_nodes earlier fresh told = fold (with_gone earlier fresh) [] told
