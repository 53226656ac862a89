-- Why a plan is refused: the first cause, in the order in which a commit is checked.
use Rattle.std.specs.Prelude.{None, ℕ, not, List, [], ◌∷◌, Option, option_map, codes}
use Rattle.std.specs.List.{filter_map, flat_map}
use Rattle.jr_path.specs.declared.path.Path.{Path}
use Rattle.jr_tree.specs.declared.edit.Write.{Write}
use Rattle.jr_tree.specs.declared.shared.Datum.TheVariants as datum
use Rattle.jr_tree.specs.declared.shared.Refusal.{Refusal}
use Rattle.jr_tree.specs.Edits.{applied}
use Rattle.jr_tree.specs.Trees.{Nodes}
use Rattle.jr_items.specs.Items.{first_of, first_some, in_path_order}
use Rattle.jr_items.specs.Refusals.{refusal, refusal_at, when}
use Rattle.jr_types.specs.declared.TypeDef.{TypeDef}
use Rattle.jr_rules.specs.Violations.{Violation, first_violation}
use Rattle.jcr_lock.specs.Locks.{locked_by, frozen_by}
use Rattle.jcr_ref.specs.References.{dangling}
use Rattle.jcr_plan.specs.Plans.{changed_by, heeded, has_few_nodes}

-- the checked-in nodes that cover a changed node, in path order
abbrev pub frozen_over : List TypeDef → Nodes → List Write → List Path
frozen_over types t ws =
    in_path_order (filter_map (frozen_by t) (flat_map changed_by (heeded types t ws)))

-- the locks without a token that cover a changed node, in path order
abbrev pub locked_over : Nodes → List (List ℕ) → List Write → List Path
locked_over t tokens ws =
    in_path_order (filter_map (λ p. locked_by t p tokens) (flat_map changed_by ws))

-- a constraint violation, with the rule, the node and the item
abbrev pub type_refusal : Violation → Refusal
type_refusal v = refusal 4 (datum.Number v.rule ∷ datum.Path v.node ∷ datum.Name v.item ∷ [])

-- the first refusal of a plan: checked in, locked, against the types, a reference without a node, too many nodes
abbrev pub plan_refusal : List TypeDef → Nodes → List (List ℕ) → List Write → Option Refusal
plan_refusal types t tokens ws = first_some
    (option_map (refusal_at 8) (first_of (frozen_over types t ws))
    ∷ option_map (refusal_at 7) (first_of (locked_over t tokens ws))
    ∷ option_map type_refusal (first_violation types (applied None t ws))
    ∷ option_map (λ item. refusal 9 (datum.Item item ∷ [])) (dangling (applied None t ws))
    ∷ when (not (has_few_nodes (applied None t ws)))
    (refusal 15 (datum.Text (codes "nodes") ∷ datum.Number 100000 ∷ []))
    ∷ [])
