-- The rules of node types. Each is a statement about one node's types and one named item, or its
-- absence.
use Rattle.std.specs.Prelude.{◌≡◌, ℕ, Bool, true, false, cond, not, ◌&&◌, ◌||◌, ◌==◌, List, [], ◌∷◌, ◌++◌, Option, None, Some, is_some, is_none, IsTrue}
use Rattle.std.specs.List.{filter, filter_map, flat_map, list_any, list_all}
use Rattle.std.specs.Option.{option_map_or}
use Rattle.jr_path.specs.declared.name.Name.{Name}
use Rattle.jr_path.specs.declared.path.Path.{Path}
use Rattle.jr_value.specs.declared.value.Kind.TheVariants as kind
use Rattle.jr_value.specs.declared.value.Property.{Property}
use Rattle.jr_value.specs.declared.value.Property.TheVariants.{Single, Many}
use Rattle.jr_value.specs.Values.{kind_number}
use Rattle.jr_tree.specs.Trees.{Nodes, node_at, property_at}
use Rattle.jr_constraint.specs.Constraints.{is_constraint}
use Rattle.jr_items.specs.Names.{primary_type, mixin_types, child_order}
use Rattle.jr_items.specs.Items.{same_name, is_empty, name_in, one_name, child_path}
use Rattle.jr_types.specs.declared.TypeDef.{TypeDef}
use Rattle.jr_types.specs.Types.{NodeTypes, type_named, types_of, props_of, prop_defs, child_defs, fits, admits, fits_child}

-- a child that is there: its `jcr:primaryType`, if it has one
abbrev pub PresentChild : Type 0
PresentChild = Option Property

-- one NAME, of a registered type that is neither a mixin nor abstract
abbrev pub is_primary_type : List TypeDef → Option Property → Bool
is_primary_type types o = option_map_or
    (λ n. option_map_or (λ d. not d.mixin && not d.is_abstract) (type_named types n) false)
    (one_name o) false

-- no name stands twice
abbrev pub are_distinct : List Name → Bool
are_distinct [] = true
are_distinct (n ∷ ns) = not (list_any (same_name n) ns) && are_distinct ns

-- the type is a registered mixin
abbrev pub is_mixin : List TypeDef → Name → Bool
is_mixin types n = option_map_or (λ d. d.mixin) (type_named types n) false

-- the values are distinct NAMEs of registered mixins
abbrev pub are_mixins : List TypeDef → Option Property → Bool
are_mixins types None = true
are_mixins types (Some (Single x)) = false
are_mixins types (Some (Many k xs)) =
    kind_number k == kind_number kind.Name
    && list_all (λ x. option_map_or (is_mixin types) (name_in x) false) xs
    && are_distinct (filter_map name_in xs)

-- the names of the mandatory properties
abbrev pub mandatory_props : List TypeDef → List Name
mandatory_props ds = filter_map (λ d. cond d.mandatory d.name None) (flat_map props_of ds)

-- the names of the mandatory children
abbrev pub mandatory_children : List TypeDef → List Name
mandatory_children ds = filter_map (λ d. cond d.mandatory d.name None)
    (flat_map (λ d. d.children) ds)

-- a property has no definition
abbrev pub is_undefined : List TypeDef → Name → Option Property → Bool
is_undefined ds n None = false
is_undefined ds n (Some x) = is_empty (prop_defs ds n)

-- a property has definitions, none with its kind and its multiplicity
abbrev pub is_misfit : List TypeDef → Name → Option Property → Bool
is_misfit ds n None = false
is_misfit ds n (Some x) = not (is_empty (prop_defs ds n))
    && is_empty (filter (λ d. fits d x) (prop_defs ds n))

-- a property has such definitions, and each has constraints of which none holds for some value
abbrev pub is_outside : List TypeDef → Name → Option Property → Bool
is_outside ds n None = false
is_outside ds n (Some x) = let fitting = filter (λ d. fits d x) (prop_defs ds n) in
    not (is_empty fitting) && list_all (λ d. not (admits d x)) fitting

-- a child has no definition
abbrev pub is_stray : List TypeDef → Name → Option PresentChild → Bool
is_stray ds n None = false
is_stray ds n (Some child) = is_empty (child_defs ds n)

-- a child has definitions, and its primary type is of all required types of none
abbrev pub is_of_no_type : List TypeDef → List TypeDef → Name → Option PresentChild → Bool
is_of_no_type types ds n None = false
is_of_no_type types ds n (Some child) = not (is_empty (child_defs ds n))
    && list_all (λ d. not (fits_child types d child)) (child_defs ds n)

-- an item of one of these names is missing
abbrev pub is_missing : {X : Type 0} → List Name → Name → Option X → Bool
is_missing mandatory n None = list_any (same_name n) mandatory
is_missing mandatory n (Some x) = false

-- the rule, where it fails
abbrev pub failing : ℕ → Bool → List ℕ
failing rule fails = cond fails (rule ∷ []) []

-- the rules that a node of these types breaks by its property of that name, or by having none
abbrev pub property_faults : List TypeDef → NodeTypes → Name → Option Property → List ℕ
property_faults types its n o =
    let ds = types_of types its in
    failing 1 (same_name n primary_type && not (is_primary_type types o))
    ++ failing 2 (same_name n mixin_types && not (are_mixins types o))
    ++ failing 3 (is_undefined ds n o)
    ++ failing 4 (is_misfit ds n o)
    ++ failing 5 (is_outside ds n o)
    ++ failing 6 (is_missing (mandatory_props ds) n o)

-- the rules that a node of these types breaks by its child of that name, or by having none
abbrev pub child_faults : List TypeDef → NodeTypes → Name → Option PresentChild → List ℕ
child_faults types its n o =
    let ds = types_of types its in
    failing 7 (is_stray ds n o) ++ failing 8 (is_of_no_type types ds n o)
    ++ failing 9 (is_missing (mandatory_children ds) n o)

-- what the node at a path says of its types
abbrev pub node_types : Nodes → Path → NodeTypes
node_types t p = record {
  primary = property_at t p primary_type;
  mixins = property_at t p mixin_types;
}

-- the child of that name of the node at a path
abbrev pub child_at : Nodes → Path → Name → Option PresentChild
child_at t p n = cond (is_some (node_at t (child_path p n)))
    (Some (property_at t (child_path p n) primary_type)) None

-- no rule fails: at each node, for the property and for the child of each name
pub record TypesOk (types : List TypeDef) (t : Nodes) : Type 0 where
  pub properties : (p : Path) (n : Name) → IsTrue (is_some (node_at t p))
      → property_faults types (node_types t p) n (property_at t p n) ≡ []
  pub children : (p : Path) (n : Name) → IsTrue (is_some (node_at t p))
      → child_faults types (node_types t p) n (child_at t p n) ≡ []

-- the type defines a property or a child named as the order of children, which each orderable type
-- has by itself
abbrev pub defines_order : TypeDef → Bool
defines_order d =
    list_any (λ p. option_map_or (same_name child_order) p.name false) d.props
    || list_any (λ c. option_map_or (same_name child_order) c.name false) d.children

-- the first rule that a new definition breaks: its name is registered, a supertype is not, a mixin
-- has a supertype that is none, a constraint is none, it defines the order of children
abbrev pub type_fault : List TypeDef → TypeDef → Option ℕ
type_fault types d =
    cond (is_some (type_named types d.name)) (Some 1)
    (cond (list_any (λ n. is_none (type_named types n)) d.supertypes) (Some 2)
    (cond (d.mixin && list_any (λ n. not (is_mixin types n)) d.supertypes) (Some 3)
    (cond (list_any (λ p. list_any (λ c. not (is_constraint p.kind c)) p.constraints)
    d.props) (Some 4)
    (cond (defines_order d) (Some 5)
    None))))
