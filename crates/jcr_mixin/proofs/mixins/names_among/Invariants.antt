use Rattle.std.proofs.Common.{◌≡◌, ◌++◌, map, drop}
use Rattle.std.specs.List.{filter_map}
use Rattle.jr_value.specs.declared.value.Value.TheVariants as value
use Rattle.jr_items.specs.Items.{name_in}
use Rattle.jcr_mixin.proofs.mixins.names_among.Given as goal

-- with what is left it is the whole
abbrev pub invariant-loop-value : goal.invariant-loop-value
invariant-loop-value l = l.names ++ map value.Name (filter_map name_in (drop l.value-index l.values)) ≡ map value.Name (filter_map name_in l.values)
