use Rattle.std.proofs.Common.{◌≡◌, ◌++◌, Some, drop}
use Rattle.jr_value.specs.declared.value.Kind.TheVariants as kind
use Rattle.jr_value.specs.declared.value.Property.TheVariants.{Many}
use Rattle.jcr_mixin.specs.Commands.{others}
use Rattle.jcr_mixin.proofs.unmix.others_among.Given as goal

-- with what is left it is the whole
abbrev pub invariant-loop-value : goal.invariant-loop-value
invariant-loop-value l = l.kept ++ others l.name (Some (Many kind.Name (drop l.value-index l.values))) ≡ others l.name (Some (Many kind.Name l.values))
