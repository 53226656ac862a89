use Rattle.std.proofs.Common.{rules, None, ◌≡◌, map, cond}
use Rattle.std.proofs.Common.{◌++◌}
use Rattle.std.specs.List.{filter_map, flat_map}
use Rattle.jr_tree.specs.Trees.{children_of}
use Rattle.jr_types.specs.declared.ChildDef.{ChildDef}
use Rattle.jr_rules.specs.Checking.{IsFirstBreak, child_rule, first_break}
use Rattle.jr_types.specs.Rules.{node_types}
use Rattle.jr_types.specs.Types.{types_of}
use Rattle.jr_types.proofs.Alike.{flat-alike}
use Rattle.jr_rules.proofs.Covered.{alike_by, first_child, if_ok}
use Rattle.jr_rules.proofs.children.child_break.Goals as goal

pub first_child-requires : goal.first_child-requires
first_child-requires c = alike_by _ (flat_map (λ d. d.children) (map (λ d. d.now) c.args.its.now)) _ (flat-alike (λ d. d.children) (map (λ d. d.now) c.args.its.now) (types_of c.args.types.now (node_types c.args.tree.now c.args.path.now)) c.requires) (search rules)

pub returns : goal.returns
returns c =
    let a = alike_by (map (λ d. d.now) c.in_ok-defs.defs.items) (flat_map (λ d. d.children) (map (λ d. d.now) c.args.its.now)) (flat_map (λ d. d.children) (types_of c.args.types.now (node_types c.args.tree.now c.args.path.now)))
    (flat-alike (λ d. d.children) (map (λ d. d.now) c.args.its.now) (types_of c.args.types.now (node_types c.args.tree.now c.args.path.now)) c.requires) c.in_ok-defs.ensures in
    let k : map (λ n. n.now) c.deref-4.result.now ≡ children_of c.args.tree.now c.args.path.now ++ filter_map (λ (d : ChildDef). cond d.mandatory d.name None) (map (λ d. d.now) c.in_ok-defs.defs.items) = search rules in
    if_ok (λ b. b ≡ first_break (child_rule c.args.types.now c.args.tree.now c.args.path.now) (map (λ n. n.now) c.deref-4.result.now)) (IsFirstBreak (child_rule c.args.types.now c.args.tree.now c.args.path.now)) c.first_child.result
    (λ b e. first_child c.args.types.now c.args.tree.now c.args.path.now (map (λ d. d.now) c.in_ok-defs.defs.items) (map (λ n. n.now) c.deref-4.result.now) b a e k) c.first_child.ensures
