-- A plan is a proper edit with the Exists and Props of its writes.
use Rattle.std.proofs.Common.{◌≡◌, List, sym, ap, ◌∙◌, subst}
use Rattle.std.specs.List.{filter}
use Rattle.std.specs.Option.{option_map_or}
use Rattle.jr_tree.specs.Trees.{Nodes}
use Rattle.jr_tree.specs.Edits.{IsProper}
use Rattle.jr_types.specs.declared.TypeDef.{TypeDef}
use Rattle.oak_machine.specs.Commits.{tree_at}
use Rattle.oak_machine.specs.History.{begin_tree}
use Rattle.oak_machine.specs.Laws.{is_of_item, Starts, StartsProper}
use Rattle.jcr_marks.proofs.OfWrites.{items_of_marks}
use Rattle.core_obeys.specs.Plans.{base_tree, Tokens, StartsPlans}

-- a law that lets only plans start lets only proper edits start, with the Exists and Props of their writes
pub plans_proper : (types : List TypeDef) (tokens : Tokens) (starts : Starts) → StartsPlans types tokens starts → StartsProper starts
plans_proper types tokens starts plans h s edit marks v base lawful =
    let plan = plans h s edit marks lawful in
    let same_tree : base_tree h s ≡ tree_at h.begin h.past v = ap (λ o. option_map_or (tree_at h.begin h.past) o (begin_tree h.begin)) base in (
      subst (λ (t : Nodes). IsProper t edit.writes) same_tree plan.proper,
      ap (filter is_of_item) (sym plan.marked) ∙ items_of_marks (base_tree h s) (tree_at h.begin h.past v) edit.writes,
    )
