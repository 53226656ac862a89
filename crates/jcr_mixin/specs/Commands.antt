-- What commands make of a node that is there: another type, a mixin less, and their refusals.
use Rattle.std.specs.Prelude.{Bool, false, cond, not, ◌&&◌, List, [], ◌∷◌, Option, Some, is_none, map, Result, Ok}
use Rattle.std.specs.BTreeMap.{insert_entry}
use Rattle.std.specs.List.{filter, fold, list_any}
use Rattle.std.specs.Option.{option_map_or}
use Rattle.jr_path.specs.Names.{name_cmp}
use Rattle.jr_path.specs.declared.name.Name.{Name}
use Rattle.jr_path.specs.declared.path.Path.{Path}
use Rattle.jr_value.specs.declared.value.Kind.TheVariants as kind
use Rattle.jr_value.specs.declared.value.Property.{Property}
use Rattle.jr_value.specs.declared.value.Property.TheVariants.{Single, Many}
use Rattle.jr_value.specs.declared.value.Value.{Value}
use Rattle.jr_value.specs.declared.value.Value.TheVariants as value
use Rattle.jr_tree.specs.declared.shared.Refusal.{Refusal}
use Rattle.jr_tree.specs.declared.shared.Who.{Who}
use Rattle.jr_tree.specs.declared.tree.Node.{Node}
use Rattle.jr_items.specs.Items.{first_some, many_names, property_of, same_name}
use Rattle.jr_items.specs.Names.{child_order, mixin_types, primary_type}
use Rattle.jr_items.specs.Refusals.{no_type, when}
use Rattle.jr_types.specs.declared.TypeDef.{TypeDef}
use Rattle.jr_types.specs.Attributes.{are_ordered}
use Rattle.jr_types.specs.Types.{prop_def}
use Rattle.jr_overlay.specs.Drafts.{Steps, with_step}
use Rattle.jr_overlay.specs.Overlays.{View}
use Rattle.jcr_write.specs.Places.{at_place, types_of_node, unless_refused, with_property, without_property}
use Rattle.jcr_fill.specs.Steps.{and_then}
use Rattle.jcr_fill.specs.Makings.{Making, complete, unknown_type}

-- the names of a node's mixins
abbrev pub mixin_names : Node → List Name
mixin_names node = many_names (property_of node mixin_types)

-- the node has the mixin
abbrev pub lists_mixin : Node → Name → Bool
lists_mixin node n = list_any (same_name n) (mixin_names node)

-- a node of this primary type; it keeps no order of its children where its types have none
abbrev pub of_primary_type : List TypeDef → Node → Name → Node
of_primary_type types node n = let typed = with_property node primary_type (Single (value.Name n)) in
    cond (are_ordered (types_of_node types typed)) typed (without_property typed child_order)

-- the node at a place with another primary type, which somebody registered
abbrev pub node_retyped : List TypeDef → View → Steps → Path → Name → Result Node Refusal
node_retyped types view steps p n = at_place view steps p (λ node.
    unless_refused (unknown_type types n) (Ok (of_primary_type types node n)))

-- a node is put with all that belongs to it
abbrev pub completed_node : List TypeDef → Who → View → Path → Making → Node → Result Making Refusal
completed_node types who view p m node = complete types who view p node m

-- what `type` makes: the node with another primary type, and with all that belongs to it
abbrev pub type_made : List TypeDef → Who → View → Path → Name → Making → Result Making Refusal
type_made types who view p n m =
    and_then (node_retyped types view m.steps p n) (completed_node types who view p m)

-- the node with this list of mixins, or with none
abbrev pub with_mixins : Node → List Value → Node
with_mixins node [] = without_property node mixin_types
with_mixins node (x ∷ xs) = with_property node mixin_types (Many kind.Name (x ∷ xs))

-- the mixins that the property lists, but for this one
abbrev pub others : Name → Option Property → List Value
others n o = map value.Name (filter (λ m. not (same_name n m)) (many_names o))

-- the node's list of mixins without this one
abbrev pub unlisted : Node → Name → Node
unlisted node n = with_mixins node (others n (property_of node mixin_types))

-- the definition that a property goes by is protected
abbrev pub is_protected : List TypeDef → Node → Name → Property → Bool
is_protected types node n x =
    option_map_or (λ d. d.protected) (prop_def (types_of_node types node) n x) false

-- a property was protected by the old types, and has no definition by the new ones
abbrev pub is_lost : List TypeDef → (old new : Node) → Name → Property → Bool
is_lost types old new n x =
    is_protected types old n x && is_none (prop_def (types_of_node types new) n x)

-- properties with one more, unless it is lost
abbrev pub with_kept : List TypeDef → (old new : Node) → List (Name × Property)
    → Name × Property → List (Name × Property)
with_kept types old new props x =
    cond (is_lost types old new x.0 x.1) props (insert_entry name_cmp props x.0 x.1)

-- the new node without the properties that are lost
abbrev pub without_lost : List TypeDef → (old new : Node) → Node
without_lost types old new = record new { props = fold (with_kept types old new) [] new.props }

-- a node without a mixin, and without the protected properties that nothing else defines
abbrev pub unmixed : List TypeDef → Node → Name → Node
unmixed types node n = without_lost types node (unlisted node n)

-- why a mixin can't be taken from a node: nobody registered it, or the node lacks it
abbrev pub unmixin_refusal : List TypeDef → Node → Name → Option Refusal
unmixin_refusal types node n =
    first_some (unknown_type types n ∷ when (not (lists_mixin node n)) (no_type n) ∷ [])

-- the node at a place without a mixin
abbrev pub node_unmixed : List TypeDef → View → Steps → Path → Name → Result Node Refusal
node_unmixed types view steps p n = at_place view steps p (λ node.
    unless_refused (unmixin_refusal types node n) (Ok (unmixed types node n)))

-- what `unmixin` makes: the node without a mixin and what that one brought
abbrev pub unmixin_made : List TypeDef → View → Path → Name → Steps → Result Steps Refusal
unmixin_made types view p n steps = and_then (node_unmixed types view steps p n)
    (λ node. Ok (with_step steps p (Some node)))
