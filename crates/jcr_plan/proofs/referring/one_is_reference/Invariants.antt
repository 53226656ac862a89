use Rattle.std.proofs.Common.{◌≡◌, drop, is_some}
use Rattle.std.specs.List.{list_any}
use Rattle.jr_items.specs.Items.{reference_in}
use Rattle.jcr_plan.proofs.referring.one_is_reference.Given as goal

-- what is left decides
abbrev pub invariant-loop-value : goal.invariant-loop-value
invariant-loop-value l = list_any (λ v. is_some (reference_in v)) (drop l.value-index l.values) ≡ list_any (λ v. is_some (reference_in v)) l.values
