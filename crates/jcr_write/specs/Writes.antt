-- What the commands that make nothing of themselves do to a view, and when they are refused.
use Rattle.std.specs.Prelude.{◌==◌, Bool, true, false, cond, not, List, [], ◌∷◌, ◌++◌, codes, Option, None, Some, is_none, is_some, map, option_and_then, option_map, Result, Ok, Err}
use Rattle.std.specs.List.{filter, flat_map, list_any}
use Rattle.std.specs.Option.{option_map_or}
use Rattle.jr_path.specs.Names.{is_under, last_name}
use Rattle.jr_path.specs.declared.name.Name.{Name}
use Rattle.jr_path.specs.declared.path.Path.{Path}
use Rattle.jr_value.specs.Values.{kind_number, kind_of_property}
use Rattle.jr_value.specs.declared.value.Kind.{Kind}
use Rattle.jr_value.specs.declared.value.Property.{Property}
use Rattle.jr_tree.specs.Trees.{Nodes}
use Rattle.jr_tree.specs.declared.shared.Refusal.{Refusal}
use Rattle.jr_tree.specs.declared.tree.Node.{Node}
use Rattle.jr_items.specs.Items.{first_of, first_some, is_empty, property_of, same_name}
use Rattle.jr_items.specs.Names.{child_order, primary_type}
use Rattle.jr_items.specs.Refusals.{in_system, limit_refusal, no_item, own_item_rule, own_rule, taken, unsupported, when, wrong_kind}
use Rattle.jr_types.specs.Attributes.{are_ordered}
use Rattle.jr_types.specs.Types.{child_def, is_named, prop_def, props_of}
use Rattle.jr_types.specs.declared.PropDef.{PropDef}
use Rattle.jr_types.specs.declared.TypeDef.{TypeDef}
use Rattle.jr_part.specs.Parts.{ChildNames}
use Rattle.jr_overlay.specs.Drafts.{Steps, drafted}
use Rattle.jr_overlay.specs.Overlays.{View}
pub use Rattle.jr_overlay.specs.Views.{all_gone, all_moved, moved_path, with_node_moved}
use Rattle.jr_order.specs.Order.{listing, moved_before, ordered}
use Rattle.jcr_write.specs.Places.{above, at_place, types_of_node, path_refusal, putting, unless_refused, with_property, without_property}

-- the definitions of that very name
abbrev pub named_defs : List TypeDef → Name → List PropDef
named_defs ds n = filter (λ d. is_named n d.name) (flat_map props_of ds)

-- the definition lets a property be of this kind
abbrev pub lets_kind : Property → PropDef → Bool
lets_kind x d = option_map_or (λ k. kind_number k == kind_number (kind_of_property x)) d.kind true

-- the kind that the first definition requires, where none lets the property be of its kind
abbrev pub other_kind : List PropDef → Property → Option Kind
other_kind defs x =
    cond (list_any (lets_kind x) defs) None (option_and_then (λ d. d.kind) (first_of defs))

-- why a property may not be set by these definitions: one is protected, or all want another kind
abbrev pub defs_refusal : List PropDef → Path → Name → Property → Option Refusal
defs_refusal defs p n x = first_some (when (list_any (λ d. d.protected) defs) (own_item_rule p n)
    ∷ option_map (λ k. wrong_kind k (kind_of_property x)) (other_kind defs x) ∷ [])

-- why a property of a node may not be set
abbrev pub set_refusal : List TypeDef → Path → Name → Property → Node → Option Refusal
set_refusal types p n x node = defs_refusal (named_defs (types_of_node types node) n) p n x

-- the node with a property set
abbrev pub node_set : List TypeDef → View → Steps → Path → Name → Property → Result Node Refusal
node_set types view steps p n x = at_place view steps p (λ node.
    unless_refused (set_refusal types p n x node) (Ok (with_property node n x)))

-- a property of the node at p is set
abbrev pub set_made : List TypeDef → View → Steps → Path → Name → Property → Result Steps Refusal
set_made types view steps p n x = putting steps p (node_set types view steps p n x)

-- why a property of a node may not be unset: there is none, or its definition is protected
abbrev pub unset_refusal : List TypeDef → Path → Name → Node → Option Property → Option Refusal
unset_refusal types p n node None = Some (no_item (p ++ n ∷ []))
unset_refusal types p n node (Some x) =
    when (option_map_or (λ d. d.protected) (prop_def (types_of_node types node) n x) false)
    (own_item_rule p n)

-- the node with a property unset
abbrev pub node_unset : List TypeDef → View → Steps → Path → Name → Result Node Refusal
node_unset types view steps p n = at_place view steps p (λ node.
    unless_refused (unset_refusal types p n node (property_of node n))
    (Ok (without_property node n)))

-- a property of the node at p is unset
abbrev pub unset_made : List TypeDef → View → Steps → Path → Name → Result Steps Refusal
unset_made types view steps p n = putting steps p (node_unset types view steps p n)

-- the definition that a child of that name goes by below a node is protected
abbrev pub is_kept_below : List TypeDef → Option Node → Name → Option Node → Bool
is_kept_below types (Some node) n (Some child) = option_map_or (λ d. d.protected)
    (child_def types (types_of_node types node) n (property_of child primary_type)) false
is_kept_below types _ n _ = false

-- a node is kept below the one above it
abbrev pub kept_refusal : List TypeDef → View → Steps → Path → Option Refusal
kept_refusal types view steps p = option_and_then (λ n.
    when (is_kept_below types (drafted view steps (above p)) n (drafted view steps p))
    (own_item_rule (above p) n)) (last_name p)

-- there is no node at p
abbrev pub absent : View → Steps → Path → Option Refusal
absent view steps p = when (is_none (drafted view steps p)) (no_item p)

-- p is the root
abbrev pub is_root : Path → Option Refusal
is_root p = when (is_empty p) (own_rule p)

-- why the node at p may not be removed: the place, the root, or its definition is protected
abbrev pub remove_refusal : List TypeDef → View → Steps → Path → Option Refusal
remove_refusal types view steps p = first_some (path_refusal p ∷ absent view steps p ∷ is_root p
    ∷ kept_refusal types view steps p ∷ [])

-- the node at p goes, with all below it
abbrev pub remove_made : List TypeDef → View → Steps → Path → Result Steps Refusal
remove_made types view steps p = unless_refused (remove_refusal types view steps p)
    (Ok (all_gone steps (view.below p)))

-- the limit that the first of the moved paths passes that passes one
abbrev pub moved_limit : Path → Path → Nodes → Option Refusal
moved_limit p q nodes = first_some (map (λ e. limit_refusal (moved_path p q e.0)) nodes)

-- why the paths of a move don't do: their limits, and the repository's own nodes
abbrev pub ends_refusal : Path → Path → Option Refusal
ends_refusal p q =
    first_some (limit_refusal p ∷ limit_refusal q ∷ in_system p ∷ in_system q ∷ [])

-- why a node may not stand there: there is none, there is none above the place, the place is
-- taken, or it is below the node itself
abbrev pub stand_refusal : View → Steps → Path → Path → Option Refusal
stand_refusal view steps p q = first_some (absent view steps p ∷ absent view steps (above q)
    ∷ when (is_some (drafted view steps q)) (taken q) ∷ when (is_under q p) (own_rule q) ∷ [])

-- why the node at p may not be moved to q
abbrev pub move_refusal : View → Steps → Path → Path → Option Refusal
move_refusal view steps p q = first_some (ends_refusal p q
    ∷ stand_refusal view steps p q ∷ moved_limit p q (view.below p) ∷ [])

-- the node at p moves to q, with all below it
abbrev pub move_made : View → Steps → Path → Path → Result Steps Refusal
move_made view steps p q =
    unless_refused (move_refusal view steps p q) (Ok (all_moved p q steps (view.below p)))

-- what is asked of a node whose place among its parent's children is to change
abbrev pub order_place : View → Steps → Path → Option Refusal
order_place view steps p =
    first_some (path_refusal p ∷ is_root p ∷ absent view steps p ∷ [])

-- a child has that name
abbrev pub is_child_named : ChildNames → Name → Bool
is_child_named children n = list_any (λ e. same_name n e.0) children

-- no child of the node at p has the name that another is to go before
abbrev pub no_child_before : Path → ChildNames → Option Name → Option Refusal
no_child_before p children None = None
no_child_before p children (Some b) = when (not (is_child_named children b)) (no_item (p ++ b ∷ []))

-- why the children of the node at p may not get another order: its types don't order them, or there
-- is no child to go before
abbrev pub order_refusal : List TypeDef → Path → ChildNames → Option Name → Node → Option Refusal
order_refusal types p children before node = first_some (
    when (not (are_ordered (types_of_node types node))) (unsupported (codes "orderBefore"))
    ∷ no_child_before p children before ∷ [])

-- the node with its children in their order, where the child n goes before another
abbrev pub node_ordered : List TypeDef → ChildNames → Name → Option Name → Node → Node
node_ordered types children n before node =
    with_property node child_order (listing (moved_before n before (ordered types node children)))

-- the node at p with another order of its children, where it may get it
abbrev pub reordered : List TypeDef → Path → ChildNames → Name → Option Name → Node
    → Result Node Refusal
reordered types p children n before node =
    unless_refused (order_refusal types p children before node)
    (Ok (node_ordered types children n before node))

-- the same of the node above, if there is one
abbrev pub parent_ordered : List TypeDef → View → Path → Name → Option Name → Option Node
    → Result Node Refusal
parent_ordered types view p n before None = Err (unsupported (codes "orderBefore"))
parent_ordered types view p n before (Some node) =
    reordered types p (view.children p) n before node

-- the same of the node above the node at p; the root has no name
abbrev pub above_ordered : List TypeDef → View → Steps → Path → Option Name → Option Name
    → Result Node Refusal
above_ordered types view steps p before None = Err (own_rule p)
above_ordered types view steps p before (Some n) =
    parent_ordered types view (above p) n before (drafted view steps (above p))

-- the node above the node at p with another order of its children, where that may be
abbrev pub order_node : List TypeDef → View → Steps → Path → Option Name → Result Node Refusal
order_node types view steps p before = unless_refused (order_place view steps p)
    (above_ordered types view steps p before (last_name p))

-- the node at p goes before another in the order of its parent's children, or to the end
abbrev pub order_made : List TypeDef → View → Steps → Path → Option Name → Result Steps Refusal
order_made types view steps p before =
    putting steps (above p) (order_node types view steps p before)
