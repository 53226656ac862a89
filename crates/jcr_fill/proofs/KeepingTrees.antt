-- A node that is put with all that belongs to it keeps a tree a tree.
use Rattle.std.proofs.Common.{◌≡◌, ℕ, zero, suc, true, Option, None, Some, List, inl, inr, refl, sym, ap, ◌∙◌, subst, is_some}
use Rattle.std.specs.Prelude.{Result, Ok, Err}
use Rattle.std.specs.FinMap.{is_sorted}
use Rattle.std.specs.List.{flat_map}
use Rattle.std.proofs.lemmas.Cmp.{nat_list_cmp_total}
use Rattle.jr_path.specs.Names.{name_cmp, parent_of}
use Rattle.jr_path.specs.declared.path.Path.{Path}
use Rattle.jr_path.proofs.Parts.{parent_of-child}
use Rattle.jr_tree.specs.declared.shared.Refusal.{Refusal}
use Rattle.jr_tree.specs.declared.shared.Who.{Who}
use Rattle.jr_tree.specs.declared.tree.Node.{Node}
use Rattle.jr_tree.specs.Trees.{Nodes, node_of_type}
use Rattle.jr_tree.proofs.Entries.{sorted_insert}
use Rattle.jr_types.specs.declared.ChildDef.{ChildDef}
use Rattle.jr_types.specs.declared.PropDef.{PropDef}
use Rattle.jr_types.specs.declared.TypeDef.{TypeDef}
use Rattle.jr_types.specs.Types.{props_of}
use Rattle.jr_overlay.specs.Drafts.{drafted}
use Rattle.jr_overlay.specs.Overlays.{View, whole_view}
use Rattle.jr_overlay.specs.Views.{KeepTree}
use Rattle.jr_overlay.proofs.KeepingSteps.{one_more_keeps}
use Rattle.jcr_write.specs.Places.{types_of_node, unless_refused}
use Rattle.jcr_fill.specs.declared.completing.MissingChild.{MissingChild}
use Rattle.jcr_fill.specs.declared.fill.Filling.{Filling}
use Rattle.jcr_fill.specs.Filled.{filled, with_own_property}
use Rattle.jcr_fill.specs.Makings.{Making, child_refusal, complete, completed, missing_child, with_made_child, with_made_children, with_filled, with_own_child}
use Rattle.jcr_fill.specs.Steps.{and_then}
use Rattle.jcr_fill.proofs.Children.{IsCompleting, by_missing, now_put, whole_at}
use Rattle.jcr_fill.proofs.Fills.{err-ok, ok_same, step_does}
use Rattle.jcr_fill.proofs.OneByOne.{each_keeps}
use Rattle.jcr_fill.proofs.Touched.{missing_path}

-- the names of a node in the making are in order
abbrev IsOrdered : Filling → Type 0
IsOrdered f = is_sorted name_cmp f.node.props ≡ true

-- a property that is made of itself leaves them so
own_ordered : (who : Who) (d : PropDef) (f g : Filling) → with_own_property who d f ≡ Ok g → IsOrdered f → IsOrdered g
own_ordered who d f g h is = elim (step_does who d f g h) [
  | inl same ↦ subst IsOrdered (sym same.0) is
  | inr put ↦ ap (λ (node : Node). is_sorted name_cmp node.props) put.put
      ∙ sorted_insert name_cmp nat_list_cmp_total put.name put.property f.node.props is
]

pub filled_ordered : (who : Who) (ds : List PropDef) (f g : Filling) → filled who ds f ≡ Ok g → IsOrdered f → IsOrdered g
filled_ordered who ds f g h is = each_keeps IsOrdered (λ d k. with_own_property who d k) (own_ordered who) ds f g h is

-- steps keep a tree, and there is a node at p
abbrev pub KeepWith : Nodes → Path → Making → Type 0
KeepWith v p m = KeepTree (whole_view v) m.steps × (is_some (drafted (whole_view v) m.steps p) ≡ true)

-- nodes that are put with what belongs to them keep a tree: those with their names in order, below nodes that are there
abbrev pub PutsKeep : Nodes → (Path → Node → Making → Result Making Refusal) → Type 0
PutsKeep v complete = (p : Path) (node : Node) (m n : Making) → KeepTree (whole_view v) m.steps
    → is_sorted name_cmp node.props ≡ true
    → ((q : Path) → parent_of p ≡ Some q → is_some (drafted (whole_view v) m.steps q) ≡ true)
    → complete p node m ≡ Ok n → KeepTree (whole_view v) n.steps

module _ (types : List TypeDef) (v : Nodes) (complete : Path → Node → Making → Result Making Refusal) (whole : IsCompleting (whole_view v) complete) (keeps : PutsKeep v complete) where
  child_keeps : (p : Path) (c : MissingChild) (m n : Making) → parent_of c.path ≡ Some p → with_made_child complete types c.path c.node_type m ≡ Ok n → KeepWith v p m → KeepWith v p n
  child_keeps p c m n up h is = by (child_refusal types c.path c.node_type) h
    where
      above : (q : Path) → parent_of c.path ≡ Some q → is_some (drafted (whole_view v) m.steps q) ≡ true
      above q e = ap (λ (o : Option Path). elim o [ Some r ↦ is_some (drafted (whole_view v) m.steps r) | None ↦ true ]) (sym e ∙ up) ∙ is.1

      by : (o : Option Refusal) → unless_refused o (complete c.path (node_of_type c.node_type) m) ≡ Ok n → KeepWith v p n
      by None e = (
        keeps c.path (node_of_type c.node_type) m n is.0 refl above e,
        whole.keeps c.path (node_of_type c.node_type) m n e p is.1,
      )
      by (Some r) e = absurd (err-ok e)

  own_child_keeps : (p : Path) (d : ChildDef) (m n : Making) → with_own_child complete types (whole_view v) p d m ≡ Ok n → KeepWith v p m → KeepWith v p n
  own_child_keeps p d m n h is = by (missing_child (whole_view v) m.steps p d) refl h
    where
      by : (o : Option MissingChild) → missing_child (whole_view v) m.steps p d ≡ o → by_missing complete types m o ≡ Ok n → KeepWith v p n
      by None e f = subst (KeepWith v p) (sym (ok_same f)) is
      by (Some c) e f = let at = missing_path (whole_view v) m.steps p d c e in
          child_keeps p c m n (ap parent_of at.1 ∙ parent_of-child p at.0) f is

  children_keep : (p : Path) (of : List TypeDef) (m n : Making) → with_made_children complete types (whole_view v) p of m ≡ Ok n → KeepWith v p m → KeepWith v p n
  children_keep p of m n h is = each_keeps (KeepWith v p) (λ d k. with_own_child complete types (whole_view v) p d k) (own_child_keeps p) (flat_map (λ d. d.children) of) m n h is

-- what makes nodes whole, so many levels down, keeps a tree
completed_keeps : (levels : ℕ) (types : List TypeDef) (who : Who) (v : Nodes) → PutsKeep v (completed levels types who (whole_view v))
unfolding completed
completed_keeps zero types who v = λ p node m n keep sorted above h.
    subst (λ (k : Making). KeepTree (whole_view v) k.steps) (sym (ok_same h)) (one_more_keeps v m.steps p node keep sorted above)
completed_keeps (suc levels) types who v = λ p node m n keep sorted above h.
    by (completed_keeps levels types who v) p node m n keep sorted above
    (filled who (flat_map props_of (types_of_node types node)) (record { node = node; ids = m.ids })) refl h
  where
    by : PutsKeep v (completed levels types who (whole_view v)) → (p : Path) (node : Node) (m n : Making) → KeepTree (whole_view v) m.steps
        → is_sorted name_cmp node.props ≡ true
        → ((q : Path) → parent_of p ≡ Some q → is_some (drafted (whole_view v) m.steps q) ≡ true)
        → (r : Result Filling Refusal) → filled who (flat_map props_of (types_of_node types node)) (record { node = node; ids = m.ids }) ≡ r
        → and_then (and_then r (λ f. Ok (with_filled m.steps p f))) (with_made_children (completed levels types who (whole_view v)) types (whole_view v) p (types_of_node types node)) ≡ Ok n
        → KeepTree (whole_view v) n.steps
    by rest p node m n keep sorted above (Err r) e f = absurd (err-ok f)
    by rest p node m n keep sorted above (Ok g) e f =
        let ordered : is_sorted name_cmp g.node.props ≡ true = filled_ordered who (flat_map props_of (types_of_node types node)) (record { node = node; ids = m.ids }) g e sorted in
        let put : KeepWith v p (with_filled m.steps p g) = (
          one_more_keeps v m.steps p g.node keep ordered above,
          ap is_some (now_put (whole_view v) m.steps p g.node),
        ) in
        (children_keep types v (completed levels types who (whole_view v)) (whole_at levels types who (whole_view v)) rest p (types_of_node types node) (with_filled m.steps p g) n f put).0

pub complete_keeps : (types : List TypeDef) (who : Who) (v : Nodes) → PutsKeep v (complete types who (whole_view v))
complete_keeps types who v = completed_keeps 65 types who v

-- and takes no node away
pub complete_stays : (types : List TypeDef) (who : Who) (view : View) (p q : Path) (node : Node) (m n : Making) → complete types who view p node m ≡ Ok n
    → is_some (drafted view m.steps q) ≡ true → is_some (drafted view n.steps q) ≡ true
complete_stays types who view p q node m n h there = (whole_at 65 types who view).keeps p node m n h q there
