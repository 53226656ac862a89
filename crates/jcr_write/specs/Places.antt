-- What every command asks of the place that it names, and nodes with one property more or less.
use Rattle.std.specs.Prelude.{◌≡◌, [], ◌∷◌, List, Option, None, Some, Result, Ok, Err}
use Rattle.std.specs.Option.{unwrap_or}
use Rattle.std.specs.Map.{remove_entry}
use Rattle.std.specs.BTreeMap.{is_at, insert_entry}
use Rattle.jr_path.specs.Names.{last_name, name_cmp, parent_of}
use Rattle.jr_path.specs.declared.name.Name.{Name}
use Rattle.jr_path.specs.declared.path.Path.{Path}
use Rattle.jr_value.specs.declared.value.Property.{Property}
use Rattle.jr_tree.specs.declared.shared.Refusal.{Refusal}
use Rattle.jr_tree.specs.declared.tree.Node.{Node}
use Rattle.jr_items.specs.Items.{first_some}
use Rattle.jr_items.specs.Refusals.{in_system, limit_refusal, no_item, out_of_memory}
use Rattle.jr_types.specs.Said.{types_said}
use Rattle.jr_types.specs.Types.{types_of}
use Rattle.jr_types.specs.declared.TypeDef.{TypeDef}
use Rattle.jr_overlay.specs.Drafts.{Steps, drafted, with_step}
use Rattle.jr_overlay.specs.Overlays.{View}

-- the types that count for a node
abbrev pub types_of_node : List TypeDef → Node → List TypeDef
types_of_node types node = types_of types (types_said node)

-- the node with a property, in the place of one of that name
abbrev pub with_property : Node → Name → Property → Node
with_property node n x = record node { props = insert_entry name_cmp node.props n x }

-- the node without the property of that name
abbrev pub without_property : Node → Name → Node
without_property node n = record node { props = remove_entry (is_at (name_cmp n)) node.props }

-- the path of the node above; the root's is its own
abbrev pub above : Path → Path
above p = unwrap_or (parent_of p) []

-- the last name of a path; the root's is empty
abbrev pub own_of : Path → Name
own_of p = unwrap_or (last_name p) []

-- refused, or else what follows
abbrev pub unless_refused : {A : Type 0} → Option Refusal → Result A Refusal → Result A Refusal
unless_refused None due = due
unless_refused (Some r) due = Err r

-- what follows of a node; 1 where there is none
abbrev pub of_node : {A : Type 0} → Path → Option Node → (Node → Result A Refusal)
    → Result A Refusal
of_node p None then = Err (no_item p)
of_node p (Some node) then = then node

-- the first of what every command asks of its path that fails: depth, length, not the repository's
abbrev pub path_refusal : Path → Option Refusal
path_refusal p = first_some (limit_refusal p ∷ in_system p ∷ [])

-- what follows of the node at a place; else why there is no such place
abbrev pub at_place : {A : Type 0} → View → Steps → Path → (Node → Result A Refusal)
    → Result A Refusal
at_place view steps p then =
    unless_refused (path_refusal p) (of_node p (drafted view steps p) then)

-- the node at a place
abbrev pub node_placed : View → Steps → Path → Result Node Refusal
node_placed view steps p = at_place view steps p Ok

-- the steps with a node put at p, where it was made
abbrev pub putting : Steps → Path → Result Node Refusal → Result Steps Refusal
putting steps p (Ok node) = Ok (with_step steps p (Some node))
putting steps p (Err r) = Err r

-- a refusal is the one that is due, unless memory was refused
abbrev pub IsDueRefusal : {A : Type 0} → Result A Refusal → Refusal → Type 0
IsDueRefusal due r = ¬ (r ≡ out_of_memory) → due ≡ Err r
