use Rattle.std.proofs.Common.{◌≡◌, drop}
use Rattle.std.specs.List.{filter_map, list_any}
use Rattle.jr_items.specs.Items.{name_in, same_name}
use Rattle.jcr_mixin.proofs.unmix.is_among.Given as goal

-- what is left decides
abbrev pub invariant-loop-value : goal.invariant-loop-value
invariant-loop-value l = list_any (same_name l.name) (filter_map name_in (drop l.value-index l.values)) ≡ list_any (same_name l.name) (filter_map name_in l.values)
