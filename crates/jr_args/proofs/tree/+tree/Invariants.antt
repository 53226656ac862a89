use Rattle.std.proofs.Common.{◌≡◌}
use Rattle.serde_json.specs.View.{members_view, view}
use Rattle.jr_args.proofs.Below.{AreReadTo, NotSoFar}
use Rattle.jr_args.specs.Trees.{members_in}
use Rattle.jr_args.proofs.tree.+tree.Given as goal

abbrev pub invariant-children-loop-key : goal.invariant-children-loop-key
invariant-children-loop-key l =
    (goal.iterator-children-loop-key).can_next l.key-iterator ×
    (goal.iterator-children-loop-key).is_finite l.key-iterator ×
    AreReadTo l.path (members_in (view l.json)) (members_view l.key-iterator) l.initial.nodes l.nodes

abbrev pub invariant-below-loop-key : goal.invariant-below-loop-key
invariant-below-loop-key l =
    (goal.iterator-below-loop-key).can_next l.key-iterator ×
    (goal.iterator-below-loop-key).is_finite l.key-iterator ×
    NotSoFar l.path (members_in (view l.json)) (members_view l.key-iterator) ×
    (l.nodes ≡ l.initial.nodes)
