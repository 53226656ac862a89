use Rattle.std.proofs.Common.{rules, None, ◌≡◌, map, cond}
use Rattle.std.proofs.Common.{◌∷◌, ◌++◌}
use Rattle.std.specs.Map.{keys_of}
use Rattle.std.specs.List.{filter_map, flat_map}
use Rattle.jr_items.specs.Names.{mixin_types, primary_type}
use Rattle.jr_types.specs.declared.PropDef.{PropDef}
use Rattle.jr_rules.specs.Checking.{IsFirstBreak, first_break, property_rule}
use Rattle.jr_types.specs.Said.{types_said}
use Rattle.jr_types.specs.Types.{props_of, types_of}
use Rattle.jr_types.proofs.Alike.{flat-alike}
use Rattle.jr_rules.proofs.Covered.{alike_by, first_property, if_ok}
use Rattle.jr_rules.proofs.properties.property_break.Goals as goal

pub first_property-requires : goal.first_property-requires
first_property-requires c = alike_by _ (flat_map props_of (map (λ d. d.now) c.args.its.now)) _ (flat-alike props_of (map (λ d. d.now) c.args.its.now) (types_of c.args.types.now (types_said c.args.node.now)) c.requires) (search rules)

pub returns : goal.returns
returns c =
    let a = alike_by (map (λ d. d.now) c.in_ok-props.props.items) (flat_map props_of (map (λ d. d.now) c.args.its.now)) (flat_map props_of (types_of c.args.types.now (types_said c.args.node.now)))
    (flat-alike props_of (map (λ d. d.now) c.args.its.now) (types_of c.args.types.now (types_said c.args.node.now)) c.requires) c.in_ok-props.ensures in
    let k : map (λ n. n.now) c.deref-3.result.now ≡ primary_type ∷ mixin_types ∷ keys_of c.args.node.now.props ++ filter_map (λ (d : PropDef). cond d.mandatory d.name None) (map (λ d. d.now) c.in_ok-props.props.items) = search rules in
    if_ok (λ b. b ≡ first_break (property_rule c.args.types.now c.args.node.now) (map (λ n. n.now) c.deref-3.result.now)) (IsFirstBreak (property_rule c.args.types.now c.args.node.now)) c.first_property.result
    (λ b e. first_property c.args.types.now c.args.node.now (map (λ d. d.now) c.in_ok-props.props.items) (map (λ n. n.now) c.deref-3.result.now) b a e k) c.first_property.ensures
