-- Registered types, and the definitions that count for an item.
use Rattle.std.specs.Prelude.{Bool, true, false, cond, not, ◌&&◌, ◌||◌, ◌==◌, List, [], ◌∷◌, ◌++◌, Option, Some, is_none, map, reverse, option_to_list}
use Rattle.std.specs.List.{filter, find, flat_map, list_all, list_any}
use Rattle.std.specs.Option.{option_map_or, option_or}
use Rattle.jr_path.specs.declared.name.Name.{Name}
use Rattle.jr_value.specs.declared.value.Kind.TheVariants as kind
use Rattle.jr_value.specs.declared.value.Property.{Property}
use Rattle.jr_value.specs.declared.value.Property.TheVariants.{Single, Many}
use Rattle.jr_value.specs.Values.{kind_number, kind_of}
use Rattle.jr_items.specs.Names.{base_type, child_order}
use Rattle.jr_constraint.specs.Constraints.{meets}
use Rattle.jr_items.specs.Items.{same_name, first_of, is_empty, one_name, many_names, values_in}
use Rattle.jr_types.specs.declared.OnParentVersion.{OnParentVersion}
use Rattle.jr_types.specs.declared.OnParentVersion.TheVariants as opv
use Rattle.jr_types.specs.declared.PropDef.{PropDef}
use Rattle.jr_types.specs.declared.ChildDef.{ChildDef}
use Rattle.jr_types.specs.declared.TypeDef.{TypeDef}

-- the type of that name
abbrev pub type_named : List TypeDef → Name → Option TypeDef
type_named types n = find (λ d. same_name d.name n) types

-- a type's supertypes; one that is no mixin has `nt:base` besides
abbrev pub supertypes_of : TypeDef → List Name
supertypes_of d = d.supertypes ++ cond d.mixin [] (base_type ∷ [])

-- a type and all its supertypes, among types from the last to the first: each stands behind its
-- supertypes
abbrev pub lineage_among : List TypeDef → Name → List TypeDef
lineage_among [] n = []
lineage_among (d ∷ older) n = elim
    (same_name d.name n) [
      | true ↦ d ∷ flat_map (lineage_among older) (supertypes_of d)
      | false ↦ lineage_among older n
    ]

-- a type and all its supertypes, each followed by its own
abbrev pub lineage : List TypeDef → Name → List TypeDef
lineage types n = lineage_among (reverse types) n

-- the first type is the second or below it
abbrev pub is_a : List TypeDef → Name → Name → Bool
is_a types n of = list_any (λ d. same_name d.name of) (lineage types n)

-- the type itself and those below it, in order of definition
abbrev pub subtypes : List TypeDef → Name → List Name
subtypes types n = map (λ d. d.name) (filter (λ d. is_a types d.name n) types)

-- what a node says of its types: its `jcr:primaryType` and its `jcr:mixinTypes`
pub record NodeTypes : Type 0 where
  pub primary : Option Property
  pub mixins : Option Property

-- the types that count for a node: its primary type, its mixins and all their supertypes
abbrev pub types_of : List TypeDef → NodeTypes → List TypeDef
types_of types its = flat_map (lineage types)
    (option_to_list (one_name its.primary) ++ many_names its.mixins)

-- the order of children, as each orderable type tells it without saying so
abbrev pub order_def : PropDef
order_def = record {
  name = Some child_order;
  kind = Some kind.Name;
  mandatory = false;
  autocreated = false;
  protected = true;
  multiple = true;
  defaults = [];
  constraints =
      [];
  opv = opv.Copy;
}

-- what a type says of properties: first the order of children, where it is orderable
abbrev pub props_of : TypeDef → List PropDef
props_of d = cond d.orderable (order_def ∷ []) [] ++ d.props

-- the first of two lists that has elements
abbrev pub either_of : {X : Type 0} → List X → List X → List X
either_of [] ys = ys
either_of (x ∷ xs) ys = x ∷ xs

-- the definition has that name
abbrev pub is_named : Name → Option Name → Bool
is_named n o = option_map_or (same_name n) o false

-- the definitions that count for a property: those of its name, or else those of no name
abbrev pub prop_defs : List TypeDef → Name → List PropDef
prop_defs ds n = let all = flat_map props_of ds in
    either_of (filter (λ d. is_named n d.name) all) (filter (λ d. is_none d.name) all)

-- the definitions that count for a child: those of its name, or else those of no name
abbrev pub child_defs : List TypeDef → Name → List ChildDef
child_defs ds n = let all = flat_map (λ d. d.children) ds in
    either_of (filter (λ d. is_named n d.name) all) (filter (λ d. is_none d.name) all)

-- a property has a list of values
abbrev pub is_multiple : Property → Bool
is_multiple (Single x) = false
is_multiple (Many k xs) = true

-- a property has the definition's kind, where it requires one, and is single or multiple as it
-- requires
abbrev pub fits : PropDef → Property → Bool
fits d (Single x) = not d.multiple
    && option_map_or (λ k. kind_number k == kind_number (kind_of x)) d.kind true
fits d (Many k xs) = d.multiple && option_map_or (λ l. kind_number l == kind_number k) d.kind true

-- the definition has no constraints, or each value meets one of them
abbrev pub admits : PropDef → Property → Bool
admits d x = is_empty d.constraints
    || list_all (λ v. list_any (meets v) d.constraints) (values_in x)

-- a child of that primary type is of each of the definition's required types
abbrev pub fits_child : List TypeDef → ChildDef → Option Property → Bool
fits_child types d primary = option_map_or (λ n. list_all (is_a types n) d.types)
    (one_name primary) false

-- the definition of a property: the first that it fits, or else the first
abbrev pub prop_def : List TypeDef → Name → Property → Option PropDef
prop_def ds n x = let counting =
    prop_defs ds n in option_or (find (λ d. fits d x) counting) (first_of counting)

-- the definition of a child: the first that it fits, or else the first
abbrev pub child_def : List TypeDef → List TypeDef → Name → Option Property → Option ChildDef
child_def types ds n primary = let counting = child_defs ds n in
    option_or (find (λ d. fits_child types d primary) counting) (first_of counting)

-- the attribute is this one
abbrev pub is_opv : OnParentVersion → OnParentVersion → Bool
is_opv opv.Copy opv.Copy = true
is_opv opv.Version opv.Version = true
is_opv opv.Initialize opv.Initialize = true
is_opv opv.Compute opv.Compute = true
is_opv opv.Ignore opv.Ignore = true
is_opv opv.Abort opv.Abort = true
is_opv _ _ = false

-- the attribute is COPY or VERSION
abbrev pub is_kept : OnParentVersion → Bool
is_kept o = is_opv opv.Copy o || is_opv opv.Version o
