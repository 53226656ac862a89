use Rattle.std.proofs.Common.{rules, ◌<◌, length}
use Rattle.jr_types.specs.Types.{props_of}
use Rattle.jr_types.specs.declared.TypeDef.{TypeDef}
use Rattle.jr_types.proofs.Wanted.{given_all}
use Rattle.jr_types.proofs.registry.Registry.props_of.Goals as goal

pub loop-definition-preserved : goal.loop-definition-preserved
loop-definition-preserved c =
    let l : c.loop-definition.definition-index < length c.args.types.now = search rules in
    given_all (λ (d : TypeDef). props_of d) c.args.types.now c.loop-definition.definition-index c.definition-item.result _ _ l c.definition-item.is c.loop-definition.invariant c.in_ok-add_props_of.ensures
