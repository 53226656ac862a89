use Rattle.std.proofs.Common.{◌≡◌}
use Rattle.std.specs.List.{find}
use Rattle.jcr_frozen.specs.declared.attributes.Asked.TheVariants as asked
use Rattle.jcr_frozen.specs.Attributes.{property_has}
use Rattle.jcr_frozen.proofs.frozen.aborting_property.Given as goal

-- what is left decides
abbrev pub invariant-loop-name : goal.invariant-loop-name
invariant-loop-name l = find (λ x. property_has asked.Aborts l.types l.node x.0 x.1) l.name-iterator ≡ find (λ x. property_has asked.Aborts l.types l.node x.0 x.1) l.node.props
