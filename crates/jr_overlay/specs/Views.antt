-- Views of which a part is known, and what steps make a tree of a tree.
use Rattle.std.specs.Prelude.{◌≡◌, ◌++◌, Bool, ◌||◌, [], drop, length, IsTrue}
use Rattle.std.specs.Prelude.{Option, None, Some, is_some}
use Rattle.std.specs.Map.{lookup}
use Rattle.std.specs.BTreeMap.{is_at}
use Rattle.std.specs.FinMap.{is_sorted}
use Rattle.std.specs.List.{fold}
use Rattle.jr_path.specs.Names.{name_cmp, parent_of, path_cmp}
use Rattle.jr_path.specs.declared.path.Path.{Path}
use Rattle.jr_tree.specs.declared.tree.Node.{Node}
use Rattle.jr_tree.specs.Trees.{Nodes}
use Rattle.jr_part.specs.Parts.{Knowledge, known_at}
use Rattle.jr_overlay.specs.Overlays.{Changed, View, change_at}
use Rattle.jr_overlay.specs.Drafts.{Steps, drafted, with_step}

-- what stands at p is known: a change touched it, or so much of the tree is known
abbrev pub is_known : Knowledge → Changed → Path → Bool
is_known k c p = is_some (change_at c p) || is_some (known_at k p)

-- what a command did at p: nothing, or that it put a node or took it away
abbrev pub step_at : Steps → Path → Option (Option Node)
step_at steps p = lookup (is_at (path_cmp p)) steps

-- something holds of each path that a command touched
abbrev pub AreAt : (Path → Type 0) → Steps → Type 0
AreAt P steps = (p : Path) → IsTrue (is_some (step_at steps p)) → P p

-- steps keep a tree a tree: each path is touched once, in order, and so is each name of a node that
-- is put; afterwards the root is there, and the parent of each node that is put, and no child of a
-- node that is taken away
pub record KeepTree (view : View) (steps : Steps) : Type 0 where
  pub paths : IsTrue (is_sorted path_cmp steps)
  pub names : (p : Path) (node : Node) → step_at steps p ≡ Some (Some node)
      → IsTrue (is_sorted name_cmp node.props)
  pub root : IsTrue (is_some (drafted view steps []))
  pub above : (p q : Path) (node : Node) → step_at steps p ≡ Some (Some node)
      → parent_of p ≡ Some q → IsTrue (is_some (drafted view steps q))
  pub below : (p q : Path) → step_at steps p ≡ Some None → parent_of q ≡ Some p
      → drafted view steps q ≡ None

-- steps that take each of these nodes away
abbrev pub all_gone : Steps → Nodes → Steps
all_gone steps nodes = fold (λ s e. with_step s e.0 None) steps nodes

-- where what stands at r comes to stand, when the node at p moves to q
abbrev pub moved_path : Path → Path → Path → Path
moved_path p q r = q ++ drop (length p) r

-- steps that take a node from its place and put it at its new one, as it was
abbrev pub with_node_moved : Path → Path → Steps → Path × Node → Steps
with_node_moved p q steps e =
    with_step (with_step steps e.0 None) (moved_path p q e.0) (Some e.1)

-- steps that move each of these nodes so
abbrev pub all_moved : Path → Path → Steps → Nodes → Steps
all_moved p q steps nodes = fold (with_node_moved p q) steps nodes
