use Rattle.std.proofs.Common.{◌∙◌, Ok, Err, sym}
use Rattle.serde_json.specs.View.{view}
use Rattle.jr_args.specs.Trees.{members_in}
use Rattle.jr_args.specs.Values.{name_of}
use Rattle.jr_args.proofs.Below.{below_answers, child_tree, children_all, children_more, children_stop, field_read, field_stops, node_stops, onto_exits, tree_whole}
use Rattle.jr_args.proofs.Lists.{first_member, no_member}
use Rattle.jr_args.proofs.tree.+tree.Goals as goal

pub below-returns-in-Ok : goal.below-returns-in-Ok
below-returns-in-Ok t c =
    rw c.loop-key.invariant.3 at (field_read c.args.path.now (members_in (view c.args.json.now)) _ _ _ _ _ c.loop-key.nodes c.children.new.nodes tt c.loop-key.invariant.2
    (first_member _ _ _ _ c.in-Some.ensures.steps) c.as_str.ensures.value (sym c.eq.ensures ∙ c.if-eq.true) c.in-Ok.ensures)

pub below-returns-in-Err : goal.below-returns-in-Err
below-returns-in-Err t c =
    field_stops c.args.path.now (members_in (view c.args.json.now)) _ _ _ _ _ _ c.args.nodes.now c.children.new.nodes c.in-Err.fault _ c.loop-key.invariant.2
    (first_member _ _ _ _ c.in-Some.ensures.steps) c.as_str.ensures.value c.as_str-in-Err.ensures.value (sym c.eq.ensures ∙ c.if-eq.true) c.in_member.ensures c.in-Err.ensures

pub child-returns-in_err-name : goal.child-returns-in_err-name
child-returns-in_err-name t c = onto_exits (name_of c.args.key.now) _ _ _ _ _ c.from_residual.ensures.1 c.in_err-name.ensures

pub child-returns : goal.child-returns
child-returns t c = child_tree c.args.path.now _ c.in_ok-name.name c.args.key.now (view c.args.json.now) _ _ _ c.in_ok-name.ensures c.in_ok-child.ensures c.tree.ensures

pub children-loop-key-preserved : goal.children-loop-key-preserved
children-loop-key-preserved t c = (
  tt,
  tt,
  children_more c.args.path.now (members_in (view c.args.json.now)) _ _ _ c.loop-key.nodes c.child.new.nodes _ _ (view c.in-Some.member.now) tt c.loop-key.invariant.2
      (first_member _ _ _ _ c.in-Some.ensures.steps) c.as_str.ensures.value c.in-Ok.ensures,
)

pub children-returns-in-Err : goal.children-returns-in-Err
children-returns-in-Err t c =
    below_answers c.args.path.now (view c.args.json.now) c.args.nodes.now c.child.new.nodes (Err c.in_member.result)
    (children_stop c.args.path.now (members_in (view c.args.json.now)) _ _ _ c.loop-key.nodes c.child.new.nodes _ _ _ (view c.in-Some.member.now) c.in-Err.fault c.in_member.result c.loop-key.invariant.2
    (first_member _ _ _ _ c.in-Some.ensures.steps) c.as_str.ensures.value c.as_str-in-Err.ensures.value c.in_member.ensures c.in-Err.ensures)

pub children-returns-in-None : goal.children-returns-in-None
children-returns-in-None t c =
    below_answers c.args.path.now (view c.args.json.now) c.args.nodes.now c.loop-key.nodes (Ok tt)
    (children_all c.args.path.now (members_in (view c.args.json.now)) _ _ _ tt c.loop-key.invariant.2 (no_member _ c.in-None.ensures.steps.0))

pub tree-returns-in_err-node : goal.tree-returns-in_err-node
tree-returns-in_err-node t c =
    node_stops c.args.path.now c.in_ok-copy.field-0 (view c.args.json.now) _ _ _ _ (sym c.is_object.ensures ∙ c.if-not-is_object.false) c.in_ok-copy.ensures c.from_residual-in_err-node.ensures.1 c.in_err-node.ensures

pub tree-returns : goal.tree-returns
tree-returns t c =
    tree_whole c.args.path.now c.in_ok-copy.field-0 (view c.args.json.now) c.in_ok-node.node c.args.nodes.now c.push.new.self c.below.new.nodes c.below.result (sym c.is_object.ensures ∙ c.if-not-is_object.false) c.in_ok-copy.ensures
    c.in_ok-node.ensures c.in_ok-push.ensures.ok c.below.ensures
