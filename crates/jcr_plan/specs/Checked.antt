-- What is checked of an edit: all of the tree after it, or of what the tree before is known to meet only that which the edit touches.
use Rattle.std.specs.Prelude.{◌≡◌, cond, codes, not, ◌&&◌, ◌||◌, ℕ, List, [], ◌∷◌, Option, None, Bool, false, IsTrue, is_some, option_map, option_to_list}
use Rattle.std.specs.List.{flat_map, list_any}
use Rattle.jr_path.specs.Names.{parent_of}
use Rattle.jr_path.specs.declared.name.Name.{Name}
use Rattle.jr_path.specs.declared.path.Item.{Item}
use Rattle.jr_path.specs.declared.path.Path.{Path}
use Rattle.jr_value.specs.declared.value.Property.{Property}
use Rattle.jr_tree.specs.declared.edit.Write.{Write}
use Rattle.jr_tree.specs.declared.edit.Write.TheVariants.{Here, Gone, Put, Unset}
use Rattle.jr_tree.specs.declared.shared.Refusal.{Refusal}
use Rattle.jr_tree.specs.Edits.{applied}
use Rattle.jr_tree.specs.Merging.{with_room}
use Rattle.jr_tree.specs.Trees.{Nodes, node_at, property_at}
use Rattle.jr_items.specs.Names.{frozen_type, primary_type, uuid}
use Rattle.jr_items.specs.Items.{child_path, first_of, first_some, is_of_type, one_text, reference_in, same_name, same_path, values_in}
use Rattle.jr_items.specs.Refusals.{checked_in, dangling_refusal as dangling_refusal, locked, over_limit, when}
use Rattle.jr_types.specs.declared.TypeDef.{TypeDef}
use Rattle.jr_types.specs.Rules.{TypesOk}
use Rattle.jr_rules.specs.Violations.{Violation, violations, violations_among}
use Rattle.jcr_ref.specs.References.{ReferencesOk, dangling}
use Rattle.jcr_marks.specs.Marks.{is_type_name}
use Rattle.jcr_plan.specs.declared.causes.Assured.{Assured}
use Rattle.jcr_plan.specs.declared.referring.ReferenceNames.{ReferenceNames}
use Rattle.jcr_plan.specs.declared.touched.Touched.{Touched}
use Rattle.jcr_plan.specs.Plans.{has_few_nodes}
use Rattle.jcr_plan.specs.Refusals.{frozen_over, locked_over, type_refusal}

-- the tree before an edit is as the caller is assured
pub record IsAsAssured (assured : Assured) (types : List TypeDef) (t : Nodes) : Type 0 where
  pub typed : IsTrue assured.typed → TypesOk types t
  pub referring : IsTrue assured.referring → ReferencesOk t

-- the node above, where the property tells a node's primary type
abbrev pub above_typed : Path → Name → List Path
above_typed p n = cond (same_name primary_type n) (option_to_list (parent_of p)) []

-- the nodes whose types, items, children or children's types a write changes
abbrev pub touched_by : Write → List Path
touched_by (Here p) = p ∷ option_to_list (parent_of p)
touched_by (Gone p) = p ∷ option_to_list (parent_of p)
touched_by (Put p n x) = p ∷ above_typed p n
touched_by (Unset p n) = p ∷ above_typed p n

-- the node at a path is one of these
abbrev pub is_node_touched : List Write → Path → Bool
is_node_touched ws p = list_any (same_path p) (flat_map touched_by ws)

-- the node of which a write changes more than properties: it comes or goes, or its types are written
abbrev pub renewed_by : Write → List Path
renewed_by (Here p) = p ∷ []
renewed_by (Gone p) = p ∷ []
renewed_by (Put p n x) = cond (is_type_name n) (p ∷ []) []
renewed_by (Unset p n) = cond (is_type_name n) (p ∷ []) []

-- the node at a path is one of these
abbrev pub is_renewed : List Write → Path → Bool
is_renewed ws p = list_any (same_path p) (flat_map renewed_by ws)

-- the child of that name of the node at a path is looked at: each where the node itself is renewed,
-- else those that are touched too
abbrev pub is_looked_at : List Write → Path → Name → Bool
is_looked_at ws p n = is_renewed ws p || is_node_touched ws (child_path p n)

-- the violations of the touched nodes, in their order
abbrev pub violations_touched : List Write → List TypeDef → Nodes → List Violation
violations_touched ws types t = flat_map (λ e.
    cond (is_node_touched ws e.0) (violations_among (is_looked_at ws e.0) types t e.0) []) t

-- the violations that are looked for
abbrev pub violations_by : Assured → List TypeDef → Nodes → List Write → List Violation
violations_by assured types u ws = cond assured.typed (violations_touched ws types u)
    (violations types u)

-- the touched nodes, and the renewed ones, as trees of nodes without properties
pub record IsTouched (ws : List Write) (touched : Touched) : Type 0 where
  pub nodes : touched.nodes ≡ with_room [] (flat_map touched_by ws)
  pub renewed : touched.renewed ≡ with_room [] (flat_map renewed_by ws)

-- the child is looked at, by these trees
abbrev pub is_asked_in : Touched → Path → Name → Bool
is_asked_in touched p n = is_some (node_at touched.renewed p)
    || is_some (node_at touched.nodes (child_path p n))

-- the violations of those of the touched nodes that stand in a tree
abbrev pub violations_in : Touched → List TypeDef → Nodes → List Violation
violations_in touched types t = flat_map (λ e. cond (is_some (node_at t e.0))
    (violations_among (is_asked_in touched e.0) types t e.0) []) touched.nodes

-- a value of the property is a REFERENCE
abbrev pub has_reference : Property → Bool
has_reference x = list_any (λ v. is_some (reference_in v)) (values_in x)

-- the node at a path is an `nt:frozenNode` in one of the trees, so that its references need name no node there
abbrev pub is_ever_frozen : (old new : Nodes) → Path → Bool
is_ever_frozen old new p = is_of_type old frozen_type p || is_of_type new frozen_type p

-- the property of that name is an identifier, or the primary type of an `nt:frozenNode`
abbrev pub is_identity : (old new : Nodes) → Path → Name → Bool
is_identity old new p n = same_name uuid n || same_name primary_type n && is_ever_frozen old new p

-- after the write a REFERENCE may name no node, where each named one before: a node with an identifier goes, or an identifier, a REFERENCE or the primary type of an `nt:frozenNode` is written
abbrev pub may_dangle : (old new : Nodes) → Write → Bool
may_dangle old new (Here p) = false
may_dangle old new (Gone p) = is_some (one_text (property_at old p uuid))
may_dangle old new (Put p n x) = has_reference x || is_identity old new p n
may_dangle old new (Unset p n) = is_identity old new p n

-- the references need not be gone over: each is known to have named a node, and no write changes that
abbrev pub are_passed_over : Assured → (old new : Nodes) → List Write → Bool
are_passed_over assured old new ws = assured.referring && not (list_any (may_dangle old new) ws)

-- the first reference without a node that is found
abbrev pub dangling_by : Assured → (old new : Nodes) → List Write → Option Item
dangling_by assured old new ws = cond (are_passed_over assured old new ws) None (dangling new)

-- the first refusal of an edit that leads from one tree to another, by what is checked
abbrev pub refusal_between : Assured → List TypeDef → (old new : Nodes) → List (List ℕ) → List Write
    → Option Refusal
refusal_between assured types t u tokens ws = first_some
    (option_map checked_in (first_of (frozen_over types t ws))
    ∷ option_map locked (first_of (locked_over t tokens ws))
    ∷ option_map type_refusal (first_of (violations_by assured types u ws))
    ∷ option_map dangling_refusal (dangling_by assured t u ws)
    ∷ when (not (has_few_nodes u)) (over_limit (codes "nodes") 100000)
    ∷ [])

-- the first refusal of an edit on a tree, by what is checked
abbrev pub refusal_by : Assured → List TypeDef → Nodes → List (List ℕ) → List Write → Option Refusal
refusal_by assured types t tokens ws = refusal_between assured types t (applied None t ws) tokens ws

-- the names by which references go
abbrev pub reference_names : ReferenceNames
reference_names = record { uuid = uuid; primary = primary_type }
