use Rattle.std.proofs.Common.{◌≡◌, drop}
use Rattle.std.specs.Prelude.{◌==◌}
use Rattle.std.specs.List.{filter_map, list_any}
use Rattle.jr_items.specs.Items.{reference_in}
use Rattle.jcr_marks.proofs.marking.is_among.Given as goal

-- what is left decides
abbrev pub invariant-loop-value : goal.invariant-loop-value
invariant-loop-value l = list_any (λ old. old == l.id) (filter_map reference_in (drop l.value-index l.values)) ≡ list_any (λ old. old == l.id) (filter_map reference_in l.values)
