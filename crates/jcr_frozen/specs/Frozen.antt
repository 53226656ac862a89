-- Frozen nodes: what a version keeps of a node.
use Rattle.std.specs.Prelude.{◌++◌, Bool, true, false, not, ◌&&◌, ◌||◌, cond, List, [], ◌∷◌, length, drop, Option, None, Some, option_map}
use Rattle.std.specs.List.{filter_map, find, fold}
use Rattle.std.specs.BTreeMap.{insert_entry}
use Rattle.std.specs.Option.{option_map_or, option_or}
use Rattle.jr_path.specs.Names.{name_cmp, parent_of}
use Rattle.jr_path.specs.declared.name.Name.{Name}
use Rattle.jr_path.specs.declared.path.Item.{Item}
use Rattle.jr_path.specs.declared.path.Path.{Path}
use Rattle.jr_value.specs.declared.value.Property.{Property}
use Rattle.jr_value.specs.declared.value.Property.TheVariants.{Single}
use Rattle.jr_value.specs.declared.value.Value.TheVariants as value
use Rattle.jr_tree.specs.declared.tree.Node.{Node}
use Rattle.jr_tree.specs.Trees.{Nodes, subtree_of}
use Rattle.jr_items.specs.Names.{primary_type, mixin_types, uuid, frozen_type, frozen_primary_type, frozen_mixin_types, frozen_uuid}
use Rattle.jr_items.specs.Items.{first_of, is_versionable, property_of, same_name, same_path}
use Rattle.jr_types.specs.declared.TypeDef.{TypeDef}
use Rattle.jcr_frozen.specs.declared.attributes.Asked.TheVariants as asked
use Rattle.jcr_frozen.specs.declared.frozen.Share.{Share}
use Rattle.jcr_frozen.specs.declared.frozen.Share.TheVariants as share
use Rattle.jcr_frozen.specs.Attributes.{node_has, property_has}

-- a node is frozen with the node above: a version keeps it, and it is not versionable
abbrev pub is_frozen_along : List TypeDef → Nodes → Path → Bool
is_frozen_along types t q = node_has asked.Kept types t q && not (is_versionable t q)

-- each node on the way down by these names is frozen with the node above
abbrev pub is_frozen_down : List TypeDef → Nodes → Path → List Name → Bool
is_frozen_down types t p [] = true
is_frozen_down types t p (n ∷ ns) = is_frozen_along types t (p ++ n ∷ []) && is_frozen_down types t (p ++ n ∷ []) ns

-- a node at or below p is frozen with p
abbrev pub is_frozen_with : List TypeDef → Nodes → Path → Path → Bool
is_frozen_with types t p q = is_frozen_down types t p (drop (length p) q)

-- the names of the properties that each frozen node has for itself
abbrev pub is_frozen_name : Name → Bool
is_frozen_name n =
    same_name primary_type n || same_name mixin_types n || same_name frozen_primary_type n || same_name frozen_mixin_types n || same_name frozen_uuid n

-- the frozen node has the property as the node has it
abbrev pub is_copied : List TypeDef → Node → Name → Property → Bool
is_copied types node n x = not (is_frozen_name n) && property_has asked.Kept types node n x

-- the name is that of a node's type or of its mixins
abbrev pub is_type_property : Name → Bool
is_type_property n = same_name primary_type n || same_name mixin_types n

-- a version doesn't keep the property of the node, and it isn't the node's types: a restore leaves it
abbrev pub is_unkept : List TypeDef → Node → Name → Property → Bool
is_unkept types node n x = not (is_type_property n) && not (property_has asked.Kept types node n x)

-- the property is in the share of the node's properties
abbrev pub is_in_share : Share → List TypeDef → Node → Name → Property → Bool
is_in_share share.Copied types node n x = is_copied types node n x
is_in_share share.Left types node n x = is_unkept types node n x

-- one property more, if it is in the share
abbrev pub with_in_share : Share → List TypeDef → Node → List (Name × Property) → Name × Property
    → List (Name × Property)
with_in_share s types node props x =
    cond (is_in_share s types node x.0 x.1) (insert_entry name_cmp props x.0 x.1) props

-- the share of a node's properties
abbrev pub share_of : Share → List TypeDef → Node → List (Name × Property)
share_of s types node = fold (with_in_share s types node) [] node.props

-- one property more, if there is one
abbrev pub with_optional_property : List (Name × Property) → Name → Option Property → List (Name × Property)
with_optional_property props n None = props
with_optional_property props n (Some x) = insert_entry name_cmp props n x

-- what each frozen node has for itself: its type, and the node's type, mixins and `jcr:uuid`, of any
-- kind, under other names
abbrev pub with_frozen_own : Node → List (Name × Property) → List (Name × Property)
with_frozen_own node props =
    let typed = insert_entry name_cmp props primary_type (Single (value.Name frozen_type)) in
    let told = with_optional_property (with_optional_property typed frozen_primary_type (property_of node primary_type)) frozen_mixin_types (property_of node mixin_types) in
    with_optional_property told frozen_uuid (property_of node uuid)

-- the properties of a node's frozen node
abbrev pub frozen_props : List TypeDef → Node → List (Name × Property)
frozen_props types node = with_frozen_own node (share_of share.Copied types node)

-- the frozen node of a node
abbrev pub frozen_copy : List TypeDef → Node → Node
frozen_copy types node = record { props = frozen_props types node; born = None }

-- the frozen nodes of p and of what is frozen with it, at and below f
abbrev pub frozen_tree : List TypeDef → Nodes → (p : Path) → (f : Path) → Nodes
frozen_tree types t p f = filter_map (λ e. cond (is_frozen_with types t p e.0) (Some (f ++ drop (length p) e.0, frozen_copy types e.1)) None) (subtree_of t p)

-- a child of what is frozen with p forbids the check-in of p
abbrev pub is_aborting : List TypeDef → Nodes → (p : Path) → Path → Bool
is_aborting types t p q = not (same_path q p) && (option_map_or (is_frozen_with types t p) (parent_of q) false && node_has asked.Aborts types t q)

-- the first property of a node that forbids the check-in
abbrev pub aborting_property : List TypeDef → Path → Node → Option Item
aborting_property types q node = option_map (λ x. record { path = q; name = Some x.0 }) (find (λ x. property_has asked.Aborts types node x.0 x.1) node.props)

-- the first item at q that forbids the check-in of p: the node itself, or else one of its properties
abbrev pub aborting_at : List TypeDef → Nodes → (p : Path) → Path → Node → Option Item
aborting_at types t p q node =
    option_or (cond (is_aborting types t p q) (Some (record { path = q; name = None })) None)
    (cond (is_frozen_with types t p q) (aborting_property types q node) None)

-- the first item that forbids the check-in of p, in path order, a node before its properties
abbrev pub aborting : List TypeDef → Nodes → (p : Path) → Option Item
aborting types t p = first_of (filter_map (λ e. aborting_at types t p e.0 e.1) (subtree_of t p))
