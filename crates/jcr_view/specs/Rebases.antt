-- Pending changes made again on another tree.
use Rattle.std.specs.Prelude.{◌&&◌, cond, List, [], None, Some, is_none, is_some}
use Rattle.std.specs.List.{fold}
use Rattle.std.specs.Option.{option_map_or}
use Rattle.jr_path.specs.declared.path.Path.{Path}
use Rattle.jr_tree.specs.declared.edit.Write.{Write}
use Rattle.jr_tree.specs.declared.edit.Write.TheVariants.{Here, Gone, Put, Unset}
use Rattle.jr_tree.specs.declared.tree.Node.{Node}
use Rattle.jr_tree.specs.Edits.{changes}
use Rattle.jr_tree.specs.Trees.{Nodes}
use Rattle.jr_part.specs.Parts.{Knowledge}
use Rattle.jr_overlay.specs.Drafts.{Steps, drafted, stepped, with_step, with_steps}
use Rattle.jr_overlay.specs.Overlays.{Changed, View, known_view, whole_view}
use Rattle.jcr_write.specs.Places.{above, with_property, without_property}
use Rattle.jr_overlay.specs.Views.{all_gone}

-- a pending node without properties
abbrev pub bare : Node
bare = record { props = []; born = None }

-- one node changes, where it stands
abbrev pub changed_where : View → Steps → Path → (Node → Node) → Steps
changed_where view steps p change =
    option_map_or (λ node. with_step steps p (Some (change node))) (drafted view steps p) steps

-- A write made again. A node comes where the node above stands and none is there; one that goes
-- takes all beneath it along; a property is written where its node stands.
abbrev pub again : View → Steps → Write → Steps
again view steps (Here p) = cond
    (is_some (drafted view steps (above p)) && is_none (drafted view steps p))
    (with_step steps p (Some bare)) steps
again view steps (Gone p) = all_gone steps (view.below p)
again view steps (Put p n x) = changed_where view steps p (λ node. with_property node n x)
again view steps (Unset p n) = changed_where view steps p (λ node. without_property node n)

-- the steps that writes make of a view, one after the other
abbrev pub steps_again : View → List Write → Steps
steps_again view ws = fold (again view) [] ws

-- the changes that writes make of another tree, of which so much is known
abbrev pub rebased : Knowledge → List Write → Changed
rebased k ws = with_steps k.nodes [] (steps_again (known_view k []) ws)

-- a tree with writes made again on it
abbrev pub tree_again : Nodes → List Write → Nodes
tree_again t ws = stepped t t (steps_again (whole_view t) ws)

-- the view after the base moved from one tree to another: the edits by which it differed from the
-- old one are made again on the new one
abbrev pub moved_view : (old new view : Nodes) → Nodes
moved_view old new view = tree_again new (changes old view)
