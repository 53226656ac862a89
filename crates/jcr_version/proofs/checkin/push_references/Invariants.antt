use Rattle.std.proofs.Common.{◌≡◌, ◌++◌, drop, map}
use Rattle.jr_value.specs.declared.value.Value.TheVariants as value
use Rattle.jcr_version.proofs.checkin.push_references.Given as goal

-- what is left leads there
abbrev pub invariant-loop-reference : goal.invariant-loop-reference
invariant-loop-reference l = l.values ++ map value.Reference (drop l.reference-index l.references) ≡ map value.Reference l.references
