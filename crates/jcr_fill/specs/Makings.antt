-- Nodes that are made, with all that belongs to them.
use Rattle.std.specs.Prelude.{ℕ, zero, suc, cond, List, [], ◌∷◌, Option, None, Some, is_some, is_none, Result, Ok}
use Rattle.std.specs.List.{flat_map}
use Rattle.std.specs.Option.{option_and_then}
use Rattle.jr_path.specs.declared.name.Name.{Name}
use Rattle.jr_path.specs.declared.path.Path.{Path}
use Rattle.jr_tree.specs.declared.shared.Refusal.{Refusal}
use Rattle.jr_tree.specs.declared.shared.Who.{Who}
use Rattle.jr_tree.specs.declared.tree.Node.{Node}
use Rattle.jr_tree.specs.Trees.{node_of_type}
use Rattle.jr_items.specs.Items.{child_path, first_some}
use Rattle.jr_items.specs.Refusals.{no_type, too_deep, too_long, when}
use Rattle.jr_types.specs.declared.ChildDef.{ChildDef}
use Rattle.jr_types.specs.declared.PropDef.{PropDef}
use Rattle.jr_types.specs.declared.TypeDef.{TypeDef}
use Rattle.jr_types.specs.Types.{props_of, type_named}
use Rattle.jr_overlay.specs.Drafts.{Steps, drafted, with_step}
use Rattle.jr_overlay.specs.Overlays.{View}
use Rattle.jcr_write.specs.Places.{types_of_node, unless_refused}
use Rattle.jcr_fill.specs.Steps.{and_then, each}
use Rattle.jcr_fill.specs.declared.fill.Filling.{Filling}
use Rattle.jcr_fill.specs.declared.completing.MissingChild.{MissingChild}
use Rattle.jcr_fill.specs.Filled.{filled}

-- what a command made of a view so far, and the identifiers that the session has drawn
pub record Making : Type 0 where
  pub steps : Steps
  pub ids : ℕ

-- steps, and the identifiers drawn for them
abbrev pub making : Steps → (ids : ℕ) → Making
making steps ids = record { steps = steps; ids = ids }

-- a node is put at a path, with so many identifiers drawn
abbrev pub with_filled : Steps → Path → Filling → Making
with_filled steps p f = record { steps = with_step steps p (Some f.node); ids = f.ids }

-- nobody registered the type
abbrev pub unknown_type : List TypeDef → Name → Option Refusal
unknown_type types n = when (is_none (type_named types n)) (no_type n)

-- why a child of that type can't be made at a path: nobody registered the type, or else the path is
-- over a limit
abbrev pub child_refusal : List TypeDef → Path → (type : Name) → Option Refusal
child_refusal types p type = first_some (unknown_type types type ∷ too_deep p ∷ too_long p ∷ [])

-- a child of that name and type, where it isn't there
abbrev pub absent_child : View → Steps → Path → Name → (type : Name) → Option MissingChild
absent_child view steps p n type = cond (is_some (drafted view steps (child_path p n))) None
    (Some (record { path = child_path p n; node_type = type }))

-- the child that a definition makes of itself, where it isn't there
abbrev pub missing_child : View → Steps → Path → ChildDef → Option MissingChild
missing_child view steps p d = cond d.autocreated (option_and_then
    (λ n. option_and_then (absent_child view steps p n) d.default_type) d.name) None

-- a new node of a type, with all that belongs to it by `complete`
abbrev pub with_made_child : (Path → Node → Making → Result Making Refusal) → List TypeDef → Path
    → (type : Name) → Making → Result Making Refusal
with_made_child complete types p type m =
    unless_refused (child_refusal types p type) (complete p (node_of_type type) m)

-- the child that a definition makes of itself is made, where it isn't there
abbrev pub with_own_child : (Path → Node → Making → Result Making Refusal) → List TypeDef → View
    → Path → ChildDef → Making → Result Making Refusal
with_own_child complete types view p d m = elim (missing_child view m.steps p d)
    [ None ↦ Ok m | Some c ↦ with_made_child complete types c.path c.node_type m ]

-- the children that these types make of themselves, each whole before the next
abbrev pub with_made_children : (Path → Node → Making → Result Making Refusal) → List TypeDef → View
    → Path → List TypeDef → Making → Result Making Refusal
with_made_children complete types view p of m =
    each (with_own_child complete types view p) (flat_map (λ d. d.children) of) m

-- a node is put with the properties that these definitions make of themselves
abbrev pub put_filled_by : Who → List PropDef → Path → Node → Making → Result Making Refusal
put_filled_by who defs p node m = and_then (filled who defs (record { node = node; ids = m.ids }))
    (λ f. Ok (with_filled m.steps p f))

-- a node is put with the properties that its types make of themselves
abbrev pub put_filled : List TypeDef → Who → Path → Node → Making → Result Making Refusal
put_filled types who p node m =
    put_filled_by who (flat_map props_of (types_of_node types node)) p node m

-- a node is put with what belongs to it, so many levels down: its properties, then its children
unfoldable pub completed : (levels : ℕ) → List TypeDef → Who → View → Path → Node → Making
    → Result Making Refusal
completed zero types who view p node m =
    Ok (with_filled m.steps p (record { node = node; ids = m.ids }))
completed (suc levels) types who view p node m = and_then (put_filled types who p node m)
    (with_made_children (completed levels types who view) types view p (types_of_node types node))

-- a node is put with all that belongs to it; a path has at most 64 names, so 65 levels are all
abbrev pub complete : List TypeDef → Who → View → Path → Node → Making → Result Making Refusal
complete types who view p node m = completed 65 types who view p node m
