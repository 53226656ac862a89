use Rattle.std.proofs.Common.{rules, None, Some, ◌≡◌, subst}
use Rattle.jr_tree.specs.Trees.{node_at}
use Rattle.jr_rules.specs.Checking.{IsFirstBreak, child_rule_among, property_rule}
use Rattle.jr_rules.specs.Violations.{is_among_names, violations_among}
use Rattle.jr_rules.proofs.Breaks.{first_of_children, first_of_properties, none_at}
use Rattle.jr_rules.proofs.Covered.{rule_at, told}
use Rattle.jr_rules.proofs.checking.check_among.Goals as goal

pub returns-in-Some-2-clause-err : goal.returns-in-Some-2-clause-err
returns-in-Some-2-clause-err c =
    let e : node_at c.args.tree.now c.args.path.now ≡ Some c.in-Some.node.now = search rules in
    let f : c.in_ok-broken.field-0 ≡ Some c.in-Some-2.broken = search rules in
    let h = subst (IsFirstBreak (property_rule c.args.types.now c.in-Some.node.now)) f c.in_ok-broken.ensures in
    told (violations_among (is_among_names c.args.names.now) c.args.types.now c.args.tree.now c.args.path.now) c.in-Some-2.broken c.args.path.now c.violation.result
    (first_of_properties (is_among_names c.args.names.now) c.args.types.now c.args.tree.now c.args.path.now c.in-Some-2.broken (rule_at c.args.types.now c.args.tree.now c.args.path.now c.in-Some.node.now e (Some c.in-Some-2.broken) h)) c.violation.ensures

pub returns-in-Some-3-clause-err : goal.returns-in-Some-3-clause-err
returns-in-Some-3-clause-err c =
    let e : node_at c.args.tree.now c.args.path.now ≡ Some c.in-Some.node.now = search rules in
    let f : c.in_ok-broken.field-0 ≡ None = search rules in
    let g : c.in_ok-broken-2.field-0 ≡ Some c.in-Some-3.broken = search rules in
    let h = subst (IsFirstBreak (property_rule c.args.types.now c.in-Some.node.now)) f c.in_ok-broken.ensures in
    let k = subst (IsFirstBreak (child_rule_among (is_among_names c.args.names.now) c.args.types.now c.args.tree.now c.args.path.now)) g c.in_ok-broken-2.ensures in
    told (violations_among (is_among_names c.args.names.now) c.args.types.now c.args.tree.now c.args.path.now) c.in-Some-3.broken c.args.path.now c.violation-in-Some-3.result
    (first_of_children (is_among_names c.args.names.now) c.args.types.now c.args.tree.now c.args.path.now c.in-Some-3.broken (rule_at c.args.types.now c.args.tree.now c.args.path.now c.in-Some.node.now e None h) k) c.violation-in-Some-3.ensures

pub returns-clause-ok : goal.returns-clause-ok
returns-clause-ok c =
    let e : node_at c.args.tree.now c.args.path.now ≡ Some c.in-Some.node.now = search rules in
    let f : c.in_ok-broken.field-0 ≡ None = search rules in
    let g : c.in_ok-broken-2.field-0 ≡ None = search rules in
    let h = subst (IsFirstBreak (property_rule c.args.types.now c.in-Some.node.now)) f c.in_ok-broken.ensures in
    let k = subst (IsFirstBreak (child_rule_among (is_among_names c.args.names.now) c.args.types.now c.args.tree.now c.args.path.now)) g c.in_ok-broken-2.ensures in
    none_at (is_among_names c.args.names.now) c.args.types.now c.args.tree.now c.args.path.now (rule_at c.args.types.now c.args.tree.now c.args.path.now c.in-Some.node.now e None h) k
