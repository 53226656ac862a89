use Rattle.std.proofs.Common.{◌≡◌, drop, is_none}
use Rattle.std.specs.List.{filter_map, list_any}
use Rattle.jr_items.specs.Items.{reference_in}
use Rattle.jcr_ref.specs.References.{target_of}
use Rattle.jcr_ref.proofs.references.Targets.one_lacks.Given as goal

-- what is left decides
abbrev pub invariant-loop-value : goal.invariant-loop-value
invariant-loop-value l = list_any (λ id. is_none (target_of l.self.tree.now id)) (filter_map reference_in (drop l.value-index l.values)) ≡ list_any (λ id. is_none (target_of l.self.tree.now id)) (filter_map reference_in l.values)
