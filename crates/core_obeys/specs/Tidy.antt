-- Journals in which each commit keeps the references: those that there are at first name nodes;
-- identifiers stand once, and change only under a mark of their node.
use Rattle.std.specs.Prelude.{None, ◌≡◌, ◌&&◌, ℕ, Bool, true, false, List, [], ◌∷◌, Some, IsTrue}
use Rattle.std.specs.List.{list_any}
use Rattle.std.specs.Ordering.{eq_by_cmp}
use Rattle.jr_path.specs.Names.{path_cmp}
use Rattle.jr_path.specs.declared.path.Path.{Path}
use Rattle.jr_tree.specs.Trees.{Nodes, property_at}
use Rattle.jr_tree.specs.Edits.{applied}
use Rattle.jr_items.specs.Names.{uuid, frozen_type}
use Rattle.jr_items.specs.Items.{one_text, is_of_type}
use Rattle.oak_clash.specs.declared.mark.Mark.{Mark}
use Rattle.oak_clash.specs.declared.mark.Mark.TheVariants.{Exists, Guard}
use Rattle.oak_clash.specs.declared.mark.MarkAt.{MarkAt}
use Rattle.oak_machine.specs.declared.event.Draw.{Draw}
use Rattle.oak_machine.specs.declared.event.Event.TheVariants as event
use Rattle.oak_machine.specs.History.{Begin, Past}
use Rattle.oak_machine.specs.Commits.{tree_at}
use Rattle.jcr_marks.specs.Marks.{stays}
use Rattle.jcr_ref.specs.References.{ReferencesOk}
use Rattle.core_merge.specs.Independent.{writes_property}
use Rattle.core_merge.specs.Orders.{tree_by_commits}

-- no two nodes have the same `jcr:uuid`
abbrev pub HasDistinctIds : Nodes → Type 0
HasDistinctIds t = (p q : Path) (id : List ℕ) → one_text (property_at t p uuid) ≡ Some id
    → one_text (property_at t q uuid) ≡ Some id → p ≡ q

-- a mark is one of a node as a whole: of its existence, or a guard
abbrev pub is_node_mark : Mark → Bool
is_node_mark Exists = true
is_node_mark Guard = true
is_node_mark _ = false

-- the node at a path has an Exists or Guard mark
abbrev pub is_node_marked : Path → List MarkAt → Bool
is_node_marked p ms = list_any (λ m. eq_by_cmp path_cmp p m.path && is_node_mark m.mark) ms

-- an edit on the tree at its base: identifiers stand once there, and change under a mark of their
-- node; no node that stays ceases to be an `nt:frozenNode`
pub record IsTidyEdit (t : Nodes) (d : Draw) : Type 0 where
  pub distinct : HasDistinctIds t
  pub marked : (p : Path) → IsTrue (writes_property p uuid d.edit.writes)
      → IsTrue (is_node_marked p d.marks)
  pub frozen : (p : Path) → IsTrue (stays t (applied None t d.edit.writes) p)
      → IsTrue (is_of_type t frozen_type p)
      → IsTrue (is_of_type (applied None t d.edit.writes) frozen_type p)

-- in the tree of a start each reference names a node; what there is before any commit has none
abbrev pub BeginsTidy : Begin → Type 0
BeginsTidy None = Unit {0}
BeginsTidy (Some s) = ReferencesOk s.tree

-- the beginning is tidy, each draw is such an edit, and in each tree of all commits identifiers
-- stand once
abbrev pub IsTidy : Begin → Past → Type 0
IsTidy begin [] = BeginsTidy begin
IsTidy begin (event.Draw d ∷ past) = IsTidyEdit (tree_at begin past d.base) d × IsTidy begin past
IsTidy begin (event.Commit r ∷ past) =
    HasDistinctIds (tree_by_commits begin (event.Commit r ∷ past)) × IsTidy begin past
IsTidy begin (_ ∷ past) = IsTidy begin past
