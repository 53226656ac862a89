use Rattle.std.proofs.Common.{rules, ◌≡◌, map}
use Rattle.std.specs.List.{flat_map}
use Rattle.jr_rules.specs.Checking.{IsFirstBreak, child_rule, child_rule_among, first_break}
use Rattle.jr_rules.specs.Violations.{is_among_names}
use Rattle.jr_types.specs.Rules.{node_types}
use Rattle.jr_types.specs.Types.{types_of}
use Rattle.jr_types.proofs.Alike.{flat-alike}
use Rattle.jr_rules.proofs.Covered.{alike_by, first_among, if_ok}
use Rattle.jr_rules.proofs.children.child_break_among.Goals as goal

pub first_child-requires : goal.first_child-requires
first_child-requires c = alike_by _ (flat_map (λ d. d.children) (map (λ d. d.now) c.args.its.now)) _ (flat-alike (λ d. d.children) (map (λ d. d.now) c.args.its.now) (types_of c.args.types.now (node_types c.args.tree.now c.args.path.now)) c.requires) (search rules)

pub returns : goal.returns
returns c =
    let k : map (λ n. n.now) c.deref-2.result.now ≡ c.args.names.now = search rules in
    if_ok (λ b. b ≡ first_break (child_rule c.args.types.now c.args.tree.now c.args.path.now) (map (λ n. n.now) c.deref-2.result.now))
    (IsFirstBreak (child_rule_among (is_among_names c.args.names.now) c.args.types.now c.args.tree.now c.args.path.now)) c.first_child.result
    (λ b e. first_among c.args.types.now c.args.tree.now c.args.path.now c.args.names.now b (rw k at e)) c.first_child.ensures
