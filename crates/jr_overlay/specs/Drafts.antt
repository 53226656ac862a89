-- Drafts: what a command makes of a view, step by step, before any of it counts.
use Rattle.std.specs.Prelude.{List, Option, option_map}
use Rattle.std.specs.Option.{unwrap_or}
use Rattle.std.specs.Map.{lookup}
use Rattle.std.specs.BTreeMap.{is_at, insert_entry}
use Rattle.std.specs.List.{fold}
use Rattle.jr_path.specs.Names.{path_cmp}
use Rattle.jr_path.specs.declared.path.Path.{Path}
use Rattle.jr_tree.specs.declared.tree.Node.{Node}
use Rattle.jr_tree.specs.Trees.{Nodes, node_at}
use Rattle.jr_overlay.specs.Overlays.{Changed, Sighted, View, base_at, dated_as, sighted, with_node_at}

-- what stands at each path that was touched: a node, or none
abbrev pub Steps : Type 0
Steps = List (Path × Option Node)

-- a draft over a view
pub record Drafting : Type 0 where
  pub sight : Sighted
  pub steps : Steps

-- the node at p after steps over a view
abbrev pub drafted : View → Steps → Path → Option Node
drafted view steps p = unwrap_or (lookup (is_at (path_cmp p)) steps) (view.node p)

-- the node at p in a draft
abbrev pub in_draft : Drafting → Path → Option Node
in_draft d p = drafted (sighted d.sight) d.steps p

-- one step more: this node at p, or none there
abbrev pub with_step : Steps → Path → Option Node → Steps
with_step steps p node = insert_entry path_cmp steps p node

-- the changes over a tree with one node in the place of what was seen
abbrev pub with_change : Nodes → Changed → Path × Option Node → Changed
with_change t c e = insert_entry path_cmp c e.0 (record {
  old = base_at t c e.0;
  new = option_map (dated_as (base_at t c e.0)) e.1;
})

-- the changes over a tree with each step made
abbrev pub with_steps : Nodes → Changed → Steps → Changed
with_steps t c steps = fold (with_change t) c steps

-- a view with each step made, over this base
abbrev pub stepped : (base : Nodes) → Nodes → Steps → Nodes
stepped base v steps = fold (λ u e.
    with_node_at u e.0 (option_map (dated_as (node_at base e.0)) e.1)) v steps
