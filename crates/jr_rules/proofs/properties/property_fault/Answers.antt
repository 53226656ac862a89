use Rattle.std.proofs.Common.{rules, None, Some, ◌≡◌, ◌∙◌, map, ap, sym, false}
use Rattle.std.specs.Prelude.{◌&&◌, not}
use Rattle.jr_items.specs.Names.{mixin_types, primary_type}
use Rattle.jr_items.specs.Items.{property_of, same_name}
use Rattle.jr_types.specs.Said.{counting_props}
use Rattle.jr_rules.specs.Checking.{definition_rule, property_rule}
use Rattle.jr_types.specs.Rules.{are_mixins, is_primary_type}
use Rattle.jr_rules.proofs.Covered.{if_ok}
use Rattle.jr_rules.proofs.Faults.{bad_mixins, bad_primary, rule_six, rules_there}
use Rattle.jr_rules.proofs.properties.property_fault.Goals as goal

pub returns-in_ok-counting_props-in-Some : goal.returns-in_ok-counting_props-in-Some
returns-in_ok-counting_props-in-Some c =
    let x : Some c.in-Some.property.now ≡ property_of c.args.node.now c.args.name.now = search rules in
    let r : c.has_bad_primary.result ≡ false = search rules in
    let s : c.has_bad_mixins.result ≡ false = search rules in
    let p : bad_primary c.args.types.now c.args.node.now c.args.name.now ≡ false =
    sym (c.has_bad_primary.ensures ∙ ap (λ o. same_name c.args.name.now primary_type && not (is_primary_type c.args.types.now o)) c.get-property.ensures) ∙ r in
    let m : bad_mixins c.args.types.now c.args.node.now c.args.name.now ≡ false =
    sym (c.has_bad_mixins.ensures ∙ ap (λ o. same_name c.args.name.now mixin_types && not (are_mixins c.args.types.now o)) c.get-property.ensures) ∙ s in
    let k : map (λ d. d.now) c.deref.result.now ≡ counting_props (map (λ d. d.now) c.args.props.now) c.args.name.now = search rules in
    if_ok (λ rule. rule ≡ definition_rule (map (λ d. d.now) c.deref.result.now) c.in-Some.property.now) (λ rule. rule ≡ property_rule c.args.types.now c.args.node.now c.args.name.now) c.definition_fault.result
    (λ rule e. e ∙ rules_there c.args.types.now c.args.node.now c.args.name.now c.in-Some.property.now _ _ x p m k c.requires) c.definition_fault.ensures

pub returns-in-None : goal.returns-in-None
returns-in-None c =
    let x : None ≡ property_of c.args.node.now c.args.name.now = search rules in
    let r : c.has_bad_primary.result ≡ false = search rules in
    let s : c.has_bad_mixins.result ≡ false = search rules in
    let p : bad_primary c.args.types.now c.args.node.now c.args.name.now ≡ false =
    sym (c.has_bad_primary.ensures ∙ ap (λ o. same_name c.args.name.now primary_type && not (is_primary_type c.args.types.now o)) c.get-property.ensures) ∙ r in
    let m : bad_mixins c.args.types.now c.args.node.now c.args.name.now ≡ false =
    sym (c.has_bad_mixins.ensures ∙ ap (λ o. same_name c.args.name.now mixin_types && not (are_mixins c.args.types.now o)) c.get-property.ensures) ∙ s in
    c.missing_property.ensures ∙ rule_six c.args.types.now c.args.node.now c.args.name.now c.args.props.now x p m c.requires
