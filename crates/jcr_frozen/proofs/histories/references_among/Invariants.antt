use Rattle.std.proofs.Common.{◌≡◌, ◌++◌, drop}
use Rattle.std.specs.List.{filter_map}
use Rattle.jr_items.specs.Items.{reference_in}
use Rattle.jcr_frozen.proofs.histories.references_among.Given as goal

-- what is left leads there
abbrev pub invariant-loop-value : goal.invariant-loop-value
invariant-loop-value l = l.references.items ++ filter_map reference_in (drop l.value-index l.values) ≡ filter_map reference_in l.values
