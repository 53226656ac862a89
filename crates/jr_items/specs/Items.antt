-- Nodes, properties and values, as rules speak of them.
use Rattle.std.specs.Prelude.{ℕ, Bool, true, false, cond, ◌&&◌, List, [], ◌∷◌, ◌++◌, Option, None, Some, map}
use Rattle.std.specs.List.{filter, filter_map, flat_map, list_any}
use Rattle.std.specs.Ordering.{eq_by_cmp}
use Rattle.std.specs.Map.{lookup, keys_of}
use Rattle.std.specs.BTreeMap.{is_at, insert_entry}
use Rattle.std.specs.Option.{option_map_or}
use Rattle.jr_path.specs.Names.{name_cmp, path_cmp}
use Rattle.jr_path.specs.declared.name.Name.{Name}
use Rattle.jr_path.specs.declared.path.Path.{Path}
use Rattle.jr_value.specs.declared.value.Value.{Value}
use Rattle.jr_value.specs.declared.value.Value.TheVariants as value
use Rattle.jr_value.specs.declared.value.Property.{Property}
use Rattle.jr_value.specs.declared.value.Property.TheVariants.{Single, Many}
use Rattle.jr_tree.specs.declared.tree.Node.{Node}
use Rattle.jr_tree.specs.declared.edit.Write.{Write}
use Rattle.jr_tree.specs.declared.edit.Write.TheVariants.{Here, Put}
use Rattle.jr_tree.specs.Trees.{Nodes, property_at}
use Rattle.jr_tree.specs.Edits.{applied, is_change}
use Rattle.jr_items.specs.Names.{primary_type, mixin_types, versionable, is_checked_out}

-- the names have the same bytes
abbrev pub same_name : Name → Name → Bool
same_name = eq_by_cmp name_cmp

-- the same path
abbrev pub same_path : Path → Path → Bool
same_path = eq_by_cmp path_cmp

-- the first of these that is there
abbrev pub first_some : {X : Type 0} → List (Option X) → Option X
first_some [] = None
first_some (None ∷ xs) = first_some xs
first_some (Some x ∷ xs) = Some x

-- the first of these
abbrev pub first_of : {X : Type 0} → List X → Option X
first_of [] = None
first_of (x ∷ xs) = Some x

-- there are none
abbrev pub is_empty : {X : Type 0} → List X → Bool
is_empty [] = true
is_empty (x ∷ xs) = false

-- names in their order, each once
abbrev pub in_name_order : List Name → List Name
in_name_order [] = []
in_name_order (n ∷ ns) = keys_of (insert_entry name_cmp (map (λ m. (m, true)) (in_name_order ns)) n true)

-- paths in their order, each once
abbrev pub in_path_order : List Path → List Path
in_path_order [] = []
in_path_order (p ∷ ps) = keys_of (insert_entry path_cmp (map (λ q. (q, true)) (in_path_order ps)) p true)

-- the property of that name
abbrev pub property_of : Node → Name → Option Property
property_of node n = lookup (is_at (name_cmp n)) node.props

-- the values of a property
abbrev pub values_in : Property → List Value
values_in (Single x) = x ∷ []
values_in (Many k xs) = xs

-- the name that a value of kind NAME is
abbrev pub name_in : Value → Option Name
name_in (value.Name n) = Some n
name_in _ = None

-- the number that a value of kind REFERENCE is
abbrev pub reference_in : Value → Option ℕ
reference_in (value.Reference id) = Some id
reference_in _ = None

-- the name, where the property is one NAME
abbrev pub one_name : Option Property → Option Name
one_name (Some (Single x)) = name_in x
one_name _ = None

-- the text, where the property is one STRING
abbrev pub one_text : Option Property → Option (List ℕ)
one_text (Some (Single (value.Str s))) = Some s
one_text _ = None

-- the number, where the property is one REFERENCE
abbrev pub one_reference : Option Property → Option ℕ
one_reference (Some (Single x)) = reference_in x
one_reference _ = None

-- the property is one BOOLEAN, and this one
abbrev pub is_flag : Bool → Option Property → Bool
is_flag true (Some (Single (value.Boolean b))) = b
is_flag false (Some (Single (value.Boolean b))) = cond b false true
is_flag _ _ = false

-- the names, where the property is a list of NAMEs
abbrev pub many_names : Option Property → List Name
many_names (Some (Many k xs)) = filter_map name_in xs
many_names _ = []

-- the references, where the property is a list of them
abbrev pub many_references : Option Property → List ℕ
many_references (Some (Many k xs)) = filter_map reference_in xs
many_references _ = []

-- the name of the primary type of the node at a path
abbrev pub primary_at : Nodes → Path → Option Name
primary_at t p = one_name (property_at t p primary_type)

-- the names of the mixins of the node at a path
abbrev pub mixins_at : Nodes → Path → List Name
mixins_at t p = many_names (property_at t p mixin_types)

-- the mixins of the node at a path have this very name
abbrev pub has_mixin : Nodes → Name → Path → Bool
has_mixin t n p = list_any (same_name n) (mixins_at t p)

-- the primary type of the node at a path has this very name
abbrev pub is_of_type : Nodes → Name → Path → Bool
is_of_type t n p = option_map_or (same_name n) (primary_at t p) false

-- a path and those above it, from it up to the root
abbrev pub upward : Path → List Path
upward [] = [] ∷ []
upward (n ∷ p) = map (λ q. n ∷ q) (upward p) ++ ([] ∷ [])

-- the path of the child of that name
abbrev pub child_path : Path → Name → Path
child_path p n = p ++ n ∷ []

-- the node may be checked in and out: its mixins have `mix:versionable` itself
abbrev pub is_versionable : Nodes → Path → Bool
is_versionable t q = has_mixin t versionable q

-- a versionable node that is not checked out
abbrev pub is_checked_in : Nodes → Path → Bool
is_checked_in t q = is_versionable t q && is_flag false (property_at t q is_checked_out)

-- those of the writes that change something
abbrev pub needed_writes : Nodes → List Write → List Write
needed_writes t ws = filter (is_change t (applied None t ws)) ws

-- the writes that add nodes with their properties
abbrev pub adding : Nodes → List Write
adding ns = flat_map (λ e. Here e.0 ∷ map (λ x. Put e.0 x.0 x.1) e.1.props) ns
