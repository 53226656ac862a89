-- The rules that a tree breaks, in the order in which they are reported.
use Rattle.std.specs.Prelude.{ℕ, Bool, true, cond, ◌==◌, List, [], ◌∷◌, ◌++◌, Option, map}
use Rattle.std.specs.List.{filter, flat_map, list_any}
use Rattle.jr_path.specs.declared.name.Name.{Name}
use Rattle.jr_path.specs.declared.path.Path.{Path}
use Rattle.jr_tree.specs.Trees.{Nodes, property_at, children_of}
use Rattle.jr_tree.specs.Edits.{properties_at}
use Rattle.jr_items.specs.Names.{primary_type, mixin_types}
use Rattle.jr_items.specs.Items.{first_of, in_name_order, same_name}
use Rattle.jr_types.specs.declared.TypeDef.{TypeDef}
use Rattle.jr_types.specs.Types.{types_of}
use Rattle.jr_types.specs.Rules.{property_faults, child_faults, node_types, child_at, mandatory_props, mandatory_children}

-- a rule that fails at a node, and the item
pub record Violation : Type 0 where
  pub node : Path
  pub rule : ℕ
  pub item : Name

-- the names of properties at which a rule may fail at a node: its own, those of its types, and the
-- mandatory ones
abbrev pub property_names : List TypeDef → Nodes → Path → List Name
property_names types t p = in_name_order
    (primary_type ∷ mixin_types ∷ map (λ e. e.0) (properties_at t p)
    ++ mandatory_props (types_of types (node_types t p)))

-- the names of children at which a rule may fail at a node: its own, and the mandatory ones
abbrev pub child_names : List TypeDef → Nodes → Path → List Name
child_names types t p = in_name_order
    (children_of t p ++ mandatory_children (types_of types (node_types t p)))

-- the rules that a node breaks by its child of that name, where it is asked for
abbrev pub faults_among : (Name → Bool) → List TypeDef → Nodes → Path → Name → List ℕ
faults_among asked types t p n =
    cond (asked n) (child_faults types (node_types t p) n (child_at t p n)) []

-- the properties of a node, and those of its children that are asked for, at which a rule fails, by
-- name
abbrev pub failing_among : (Name → Bool) → List TypeDef → Nodes → Path → ℕ → List Name
failing_among asked types t p rule =
    filter (λ n. list_any (λ r. r == rule)
    (property_faults types (node_types t p) n (property_at t p n))) (property_names types t p)
    ++ filter (λ n. list_any (λ r. r == rule) (faults_among asked types t p n))
    (child_names types t p)

-- the properties and the children of a node at which a rule fails, by name
abbrev pub failing_at : List TypeDef → Nodes → Path → ℕ → List Name
failing_at = failing_among (λ n. true)

-- what fails at a node, of its children at those that are asked for, by rule, then by item
abbrev pub violations_among : (Name → Bool) → List TypeDef → Nodes → Path → List Violation
violations_among asked types t p = flat_map
    (λ rule. map (λ n. record { node = p; rule = rule; item = n })
    (failing_among asked types t p rule))
    (1 ∷ 2 ∷ 3 ∷ 4 ∷ 5 ∷ 6 ∷ 7 ∷ 8 ∷ 9 ∷ [])

-- what fails at a node, by rule, then by item
abbrev pub violations_at : List TypeDef → Nodes → Path → List Violation
violations_at = violations_among (λ n. true)

-- the name is one of these
abbrev pub is_among_names : List Name → Name → Bool
is_among_names ns n = list_any (same_name n) ns

-- what fails in a tree, in path order, then by rule, then by item
abbrev pub violations : List TypeDef → Nodes → List Violation
violations types t = flat_map (λ e. violations_at types t e.0) t

-- the first that fails
abbrev pub first_violation : List TypeDef → Nodes → Option Violation
first_violation types t = first_of (violations types t)
