-- The order of the children of a node.
use Rattle.std.specs.Prelude.{Bool, true, cond, List, [], ◌∷◌, ◌++◌, Option, is_none, map}
use Rattle.std.specs.List.{flat_map, fold}
use Rattle.std.specs.Map.{keys_of, remove_entry}
use Rattle.std.specs.BTreeMap.{is_at, insert_entry}
use Rattle.std.specs.Ordering.{bool_cmp, on, then_cmp}
use Rattle.std.specs.Option.{option_cmp}
use Rattle.std.specs.declared.cmp.Ordering.{Ordering}
use Rattle.jr_path.specs.Names.{name_cmp}
use Rattle.jr_path.specs.declared.name.Name.{Name}
use Rattle.jr_rev.specs.Revisions.{revision_cmp}
use Rattle.jr_rev.specs.declared.revision.Revision.{Revision}
use Rattle.jr_value.specs.declared.value.Kind.TheVariants as kind
use Rattle.jr_value.specs.declared.value.Property.{Property}
use Rattle.jr_value.specs.declared.value.Property.TheVariants.{Many}
use Rattle.jr_value.specs.declared.value.Value.TheVariants as value
use Rattle.jr_tree.specs.declared.tree.Node.{Node}
use Rattle.jr_items.specs.Items.{many_names, property_of, same_name}
use Rattle.jr_items.specs.Names.{child_order}
use Rattle.jr_types.specs.Attributes.{are_ordered}
use Rattle.jr_types.specs.Said.{types_said}
use Rattle.jr_types.specs.Types.{is_named, types_of}
use Rattle.jr_types.specs.declared.TypeDef.{TypeDef}
use Rattle.jr_part.specs.Parts.{ChildNames, has_name}
use Rattle.jr_order.specs.declared.children.Birth.{Birth}

-- with one child more, in the place of one of its name
abbrev pub with_ordered_name : ChildNames → Name × Option Revision → ChildNames
with_ordered_name names e = insert_entry name_cmp names e.0 e.1

-- children by their names
abbrev pub by_name : ChildNames → ChildNames
by_name rest = fold with_ordered_name [] rest

-- by the revision that added a child, what is pending last, and of one birth by name
abbrev pub birth_cmp : Birth → Birth → Ordering
birth_cmp = then_cmp (on (λ b. b.pending) bool_cmp)
    (then_cmp (on (λ b. b.born) (option_cmp revision_cmp)) (on (λ b. b.name) name_cmp))

-- the birth of a child
abbrev pub birth_of : Name × Option Revision → Birth
birth_of e = record { pending = is_none e.1; born = e.1; name = e.0 }

-- with the birth of one child more
abbrev pub with_birth : List (Birth × Bool) → Name × Option Revision → List (Birth × Bool)
with_birth births e = insert_entry birth_cmp births (birth_of e) true

-- the names of children by their births
abbrev pub by_birth : ChildNames → List Name
by_birth rest = map (λ e. e.0.name) (fold with_birth [] rest)

-- first the listed names that are children's, each once, then the other children by their births
abbrev pub in_order : (listed : List Name) → ChildNames → List Name
in_order [] rest = by_birth rest
in_order (n ∷ ns) rest = cond (has_name rest n)
    (n ∷ in_order ns (remove_entry (is_at (name_cmp n)) rest)) (in_order ns rest)

-- the names that a node lists as the order of its children
abbrev pub listed_names : Node → List Name
listed_names node = many_names (property_of node child_order)

-- the names of the children of a node in their order: as the node lists them, where its types say
-- that they are ordered; else as they are given
abbrev pub ordered : List TypeDef → Node → ChildNames → List Name
ordered types node rest = cond (are_ordered (types_of types (types_said node)))
    (in_order (listed_names node) (by_name rest)) (keys_of rest)

-- what stands in the place of a name where n goes before another
abbrev pub around : Name → Option Name → Name → List Name
around n before k =
    cond (same_name n k) [] (cond (is_named k before) (n ∷ k ∷ []) (k ∷ []))

-- the names with n directly before another, or at the end
abbrev pub moved_before : Name → Option Name → List Name → List Name
moved_before n before names = cond (is_named n before) names
    (flat_map (around n before) names ++ cond (is_none before) (n ∷ []) [])

-- the names as the property that lists them
abbrev pub listing : List Name → Property
listing names = Many kind.Name (map value.Name names)
